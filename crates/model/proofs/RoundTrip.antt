-- Demand 2: what was written reads back as the same lines, and a text that was read is written again with the same bytes. By induction
-- on the lines: a text that is read is the joined spellings of correct lines. Assumes nothing.
use Prim.Native.Nat.{ℕ, zero, suc, ◌+◌, ◌*◌, ◌/◌, ◌≤◌, ◌<◌}
use mathlib.Core.Bool.{Bool, true, false, cond}
use mathlib.Core.Path.{◌≡◌, refl, sym, ap, ap₂, ◌∙◌}
use mathlib.Core.List.{List, [], ◌∷◌, ◌++◌, flat_map}
use native.Mathlib.Omega.{arith}
use lib.ListN.{length, take, drop, length-append}
use lib.Seq.{take_at}
use lib.Dec.{ltb, leb, eqb}
use borrow.Author.Tests.{le-ltb, ne_eqb, eqb-true, lt-leb, leb-false}
use Rattle.model.specs.declared.Line.{Line}
use Rattle.model.specs.Limits.{line_width, max_lines}
use Rattle.model.specs.Answers.{Report, counted, refused, Outcome, outcome, unless_refused, at_front}
use Rattle.model.specs.Stored.{codes, line_count, Parsed, numbers, wrong, lines, program_check}
use Rattle.model.specs.Text.{newline, spell_line, past, front_line, Reading, ends, then_reads, reading, read_outcome, text_of, write_outcome, fitted}
use Rattle.model.specs.Lines.{AllCorrect}
use Rattle.model.proofs.StoredLaws.{CheckAnswer, accepts, refuses, check_answer, never_counted, counted_count, program_checked, length-lines, codes-length, whole_lines, whole_check}
use Rattle.model.proofs.ReadingLaws.{line_text, line_text_lem, front_there, past_there, FrontLine, front-back}

-- ---- the definitions' clauses, with the search by spelling shut

pub reading-zero : (n room : ℕ) (text : List ℕ) → reading zero n room text ≡ cond (eqb (length text) 0) (ends (counted n)) (ends (refused 7 n))
unfolding reading
reading-zero n room text = refl

pub reading_suc : (more n room : ℕ) (text : List ℕ)
    → reading (suc more) n room text
    ≡ cond (eqb (length text) 0) (ends (counted n)) (cond (leb room n) (ends (refused 8 n)) (then_reads (front_line text) n (reading more (n + 1) room (past newline text))))
unfolding reading
reading_suc more n room text = refl

pub read_outcome_lem : (text store : List ℕ)
    → read_outcome text store
    ≡ outcome (reading max_lines 0 (length store / line_width) text).answer (at_front (reading max_lines 0 (length store / line_width) text).stored store ∷ [])
unfolding read_outcome
read_outcome_lem text store = refl

-- ---- reading what was written

abbrev got : ℕ → List ℕ → Reading
got n stored = record { answer = counted n; stored = stored }

reads_none : (more n room : ℕ) → reading more n room [] ≡ got n []
reads_none zero n room = reading-zero n room []
reads_none (suc more) n room = reading_suc more n room []

line_some : (l : Line) (rest : List ℕ) → 0 < length (spell_line l ++ rest)
line_some l rest = rw (line_text_lem l rest) (omega (arith, length-append (line_text l) (newline ∷ rest)))

pub reads_lines : (ls : List Line) → AllCorrect ls → (more n room : ℕ) → length ls ≤ more → n + length ls ≤ room
    → reading more n room (flat_map spell_line ls) ≡ got (n + length ls) (flat_map codes ls)
unfolding flat_map
reads_lines [] h more n room few fits = let e : n ≡ n + 0 = omega arith in reads_none more n room ∙ ap (λ (k : ℕ). got k []) e
reads_lines (l ∷ ls) h zero n room few fits = absurd (omega arith)
reads_lines (l ∷ ls) h (suc more) n room few fits =
    let rest : List ℕ = flat_map spell_line ls in
    let e : n + 1 + length ls ≡ n + suc (length ls) = omega arith in
    rw (
      reading_suc more n room (spell_line l ++ rest),
      ne_eqb (length (spell_line l ++ rest)) 0 (λ z. omega (arith, line_some l rest)),
      lt-leb room n (omega arith),
      front_there l h.0 rest,
      past_there l rest,
      reads_lines ls h.1 more (n + 1) room (omega arith) (omega arith),
      e,
    )

-- THE FIRST LAW: the text of a program, read into a store with room for it, gives the program's lines
pub read_written : (p store : List ℕ) (n : ℕ) → program_check p ≡ counted n → 6 * n ≤ length store
    → read_outcome (text_of p) store ≡ outcome (counted n) (at_front (take (6 * n) p) store ∷ [])
unfolding text_of
read_written p store n e h =
    let c = program_checked p n e in
    let k : length (lines p) ≡ n = length-lines p ∙ sym c.count in
    let room : ℕ = length store / line_width in
    let few : length (lines p) ≤ max_lines = omega (arith, c.few) in
    let z : 0 + length (lines p) ≡ n = omega arith in
    let q : reading max_lines 0 room (flat_map spell_line (lines p)) ≡ got n (take (6 * n) p) =
    reads_lines (lines p) c.all_right max_lines 0 room few (omega arith) ∙ ap₂ got z c.stored in
    read_outcome_lem (flat_map spell_line (lines p)) store ∙ ap (λ (r : Reading). outcome r.answer (at_front r.stored store ∷ [])) q

-- ---- writing what was read

-- the lines of a text that was read
pub record Read (more n room k : ℕ) (text stored : List ℕ) : Type 0 where
  pub lines_are : List Line
  pub right : AllCorrect lines_are
  pub count : n + length lines_are ≡ k
  pub few : length lines_are ≤ more
  pub fits : k ≤ room
  pub stored_is : stored ≡ flat_map codes lines_are
  pub text_is : flat_map spell_line lines_are ≡ text

pub no_text : (s : List ℕ) → length s ≡ 0 → [] ≡ s
no_text [] h = refl
no_text (b ∷ s) h = absurd (omega arith)

-- the text has ended
ended : (more n room k : ℕ) (text stored : List ℕ) → n ≤ room → length text ≡ 0 → ends (counted n) ≡ got k stored → Read more n room k text stored
unfolding flat_map
ended more n room k text stored h z e =
    let a : n ≡ k = counted_count (ap (λ (r : Reading). r.answer) e) in
    record { lines_are = []; right = tt; count = omega arith; few = omega arith; fits = omega arith; stored_is = sym (ap (λ (r : Reading). r.stored) e); text_is = no_text text z }

-- what a reading that was refused is not
not_got : {j n k : ℕ} {stored : List ℕ} → ends (refused j n) ≡ got k stored → ⊥
not_got e = never_counted (ap (λ (r : Reading). r.answer) e)

got_if : (t : Bool) (x : Reading) (j n k : ℕ) (stored : List ℕ) → cond t x (ends (refused j n)) ≡ got k stored → (t ≡ true) × (x ≡ got k stored)
got_if true x j n k stored e = (refl, e)
got_if false x j n k stored e = absurd (not_got e)

got_unless : (t : Bool) (x : Reading) (j n k : ℕ) (stored : List ℕ) → cond t (ends (refused j n)) x ≡ got k stored → (t ≡ false) × (x ≡ got k stored)
got_unless true x j n k stored e = absurd (not_got e)
got_unless false x j n k stored e = (refl, e)

-- a line was read, and then the rest
record Turn (x : Parsed) (next : Reading) (k : ℕ) (stored : List ℕ) : Type 0 where
  line : List ℕ
  is : x ≡ numbers line
  rest : next ≡ got k next.stored
  joined : stored ≡ line ++ next.stored

turn : (x : Parsed) (n : ℕ) (next : Reading) (k : ℕ) (stored : List ℕ) → then_reads x n next ≡ got k stored → Turn x next k stored
turn (numbers line) n next k stored e =
    let a : next.answer ≡ counted k = ap (λ (r : Reading). r.answer) e in
    record { line = line; is = refl; rest = ap (λ (r : Report). record { answer = r; stored = next.stored }) a; joined = sym (ap (λ (r : Reading). r.stored) e) }
turn (wrong j) n next k stored e = absurd (not_got e)

first_line : (more n room k : ℕ) (text stored line tail : List ℕ) → FrontLine text line → stored ≡ line ++ tail → Read more (n + 1) room k (past newline text) tail → Read (suc more) n room k text stored
unfolding flat_map
first_line more n room k text stored line tail f q r =
    record {
      lines_are = f.line ∷ r.lines_are;
      right = (f.right, r.right);
      count = omega (arith, r.count);
      few = omega (arith, r.few);
      fits = r.fits;
      stored_is = q ∙ ap₂ (λ (x y : List ℕ). x ++ y) f.stored r.stored_is;
      text_is = ap (λ (x : List ℕ). spell_line f.line ++ x) r.text_is ∙ f.text_is;
    }

pub reads-back : (more n room : ℕ) (text : List ℕ) (k : ℕ) (stored : List ℕ) → n ≤ room → reading more n room text ≡ got k stored → Read more n room k text stored
reads-back zero n room text k stored h e =
    let w = got_if (eqb (length text) 0) (ends (counted n)) 7 n k stored (sym (reading-zero n room text) ∙ e) in
    ended zero n room k text stored h (eqb-true (length text) 0 w.0) w.1
reads-back (suc more) n room text k stored h e =
    let next : Reading = reading more (n + 1) room (past newline text) in
    by (eqb (length text) 0) refl (sym (reading_suc more n room text) ∙ e) (λ g q. reads-back more (n + 1) room (past newline text) k next.stored g q)
  where
    by : (t : Bool) → eqb (length text) 0 ≡ t
        → cond t (ends (counted n)) (cond (leb room n) (ends (refused 8 n)) (then_reads (front_line text) n (reading more (n + 1) room (past newline text)))) ≡ got k stored
        → (n + 1 ≤ room → reading more (n + 1) room (past newline text) ≡ got k (reading more (n + 1) room (past newline text)).stored → Read more (n + 1) room k (past newline text) (reading more (n + 1) room (past newline text)).stored)
        → Read (suc more) n room k text stored
    by true z q ih = ended (suc more) n room k text stored h (eqb-true (length text) 0 z) q
    by false z q ih =
        let next : Reading = reading more (n + 1) room (past newline text) in
        let w = got_unless (leb room n) (then_reads (front_line text) n next) 8 n k stored q in
        let v = turn (front_line text) n next k stored w.1 in
        first_line more n room k text stored v.line next.stored (front-back text v.line v.is) v.joined (ih (omega (arith, leb-false room n w.0)) v.rest)

-- what holds of a text that was read: the lines in the store are a program, and its text is the text
pub record Same (text new : List ℕ) (n : ℕ) : Type 0 where
  pub right : program_check (take (6 * n) new) ≡ counted n
  pub text_is : text_of (take (6 * n) new) ≡ text
  pub long : 6 * n ≤ length new

only_store : {x y : List ℕ} → ◌≡◌ {A = List (List ℕ)} (x ∷ []) (y ∷ []) → x ≡ y
only_store e = cc

stored_same : (text store : List ℕ) (n : ℕ) (new stored : List ℕ) → at_front stored store ≡ new → Read max_lines 0 (length store / line_width) n text stored → Same text new n
unfolding text_of
stored_same text store n new stored s r =
    let ls : List Line = r.lines_are in
    let k : length ls ≡ n = omega (arith, r.count) in
    let long : length stored ≡ 6 * n = ap length r.stored_is ∙ codes-length ls ∙ ap (λ (j : ℕ). 6 * j) k in
    let front : take (6 * n) new ≡ flat_map codes ls = ap (take (6 * n)) (sym s) ∙ take_at stored (drop (length stored) store) (6 * n) long ∙ r.stored_is in
    record {
      right = rw front (whole_check ls r.right r.few ∙ ap counted k);
      text_is = rw (front, whole_lines ls r.right) r.text_is;
      long = omega (arith, ap length s, length-append stored (drop (length stored) store));
    }

-- THE SECOND LAW: a text that was read into a store is the text of the program that the store then begins with
pub written_read : (text store : List ℕ) (n : ℕ) (new : List ℕ) → read_outcome text store ≡ outcome (counted n) (new ∷ []) → Same text new n
written_read text store n new e =
    let r : Reading = reading max_lines 0 (length store / line_width) text in
    let q : outcome r.answer (at_front r.stored store ∷ []) ≡ outcome (counted n) (new ∷ []) = sym (read_outcome_lem text store) ∙ e in
    let a : r ≡ got n r.stored = ap (λ (x : Report). record { answer = x; stored = r.stored }) (ap (λ (o : Outcome). o.answer) q) in
    let s : at_front r.stored store ≡ new = only_store (ap (λ (o : Outcome). o.stores) q) in
    stored_same text store n new r.stored s (reads-back max_lines 0 (length store / line_width) text n r.stored (omega arith) a)

-- ---- the two laws between reading and writing

-- what a writing that was done says: the check accepted the program, and the text stands at the front of what was lent
record Wrote (p out : List ℕ) (k : ℕ) (new : List ℕ) : Type 0 where
  right : program_check p ≡ counted (line_count p)
  count : length (text_of p) ≡ k
  bytes : at_front (text_of p) out ≡ new

not_written : {j i k : ℕ} {a b : List (List ℕ)} → outcome (refused j i) a ≡ outcome (counted k) b → ⊥
not_written e = never_counted (ap (λ (o : Outcome). o.answer) e)

written : (p out : List ℕ) (k : ℕ) (new : List ℕ) → write_outcome p out ≡ outcome (counted k) (new ∷ []) → Wrote p out k new
unfolding write_outcome fitted
written p out k new e = by (program_check p) (check_answer p) e refl
  where
    room : (t : Bool) (x : Outcome) → cond t (outcome (refused 17 0) (out ∷ [])) x ≡ outcome (counted k) (new ∷ []) → x ≡ outcome (counted k) (new ∷ [])
    room true x q = absurd (not_written q)
    room false x q = q

    by : (r : Report) → CheckAnswer p r
        → unless_refused r (out ∷ []) (cond (ltb (length out) (length (text_of p))) (outcome (refused 17 0) (out ∷ [])) (outcome (counted (length (text_of p))) (at_front (text_of p) out ∷ []))) ≡ outcome (counted k) (new ∷ [])
        → program_check p ≡ r → Wrote p out k new
    by r (accepts a) q c =
        let w = room (ltb (length out) (length (text_of p))) (outcome (counted (length (text_of p))) (at_front (text_of p) out ∷ [])) (rw a at q) in
        record { right = c ∙ a; count = counted_count (ap (λ (o : Outcome). o.answer) w); bytes = only_store (ap (λ (o : Outcome). o.stores) w) }
    by r (refuses j i a) q c =
        let z : outcome (refused j i) (out ∷ []) ≡ outcome (counted k) (new ∷ []) = rw a at q in
        absurd (not_written z)

-- what was written reads back as the same lines
pub read_after_write : (p out : List ℕ) (k : ℕ) (new store : List ℕ) → write_outcome p out ≡ outcome (counted k) (new ∷ []) → 6 * line_count p ≤ length store
    → read_outcome (take k new) store ≡ outcome (counted (line_count p)) (at_front (take (6 * line_count p) p) store ∷ [])
read_after_write p out k new store e h =
    let w = written p out k new e in
    let t : take k new ≡ text_of p = ap (take k) (sym w.bytes) ∙ take_at (text_of p) (drop (length (text_of p)) out) k w.count in
    ap (λ (x : List ℕ). read_outcome x store) t ∙ read_written p store (line_count p) w.right h

-- a text that was read is written again with the same bytes, wherever there is room for it
pub write_after_read : (text store : List ℕ) (n : ℕ) (new out : List ℕ) → read_outcome text store ≡ outcome (counted n) (new ∷ []) → length text ≤ length out
    → write_outcome (take (6 * n) new) out ≡ outcome (counted (length text)) (at_front text out ∷ [])
unfolding write_outcome fitted
write_after_read text store n new out e h =
    let s = written_read text store n new e in
    rw (s.right, s.text_is, le-ltb (length out) (length text) h)
