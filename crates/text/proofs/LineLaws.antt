-- A line as the code takes it apart: six parts, each found by its comma, are the fields of the model's line. Assumes nothing.
use Prim.Native.Nat.{ℕ, ◌+◌, ◌≤◌}
use mathlib.Core.Path.{◌≡◌, sym, ap, ◌∙◌}
use mathlib.Core.List.{List, []}
use lib.ListN.{length, take, drop, drop_of_length-le}
use borrow.Author.Tests.{eq-eqb}
use Rattle.model.specs.Stored.{wrong}
use Rattle.model.specs.Text.{comma, up_to, past, count_of, skip, parsed_text, front_line}
use Rattle.model.proofs.ReadingLaws.{parsed_fields, parsed_text_lem, front_line_lem}
use Rattle.text.proofs.PartLaws.{before-first, after_first}

-- a part of what follows so many commas, up to the next, and what follows that
part : (s t : List ℕ) (n : ℕ) → n ≡ length (up_to comma s) → s ≡ t → take n s ≡ up_to comma t
part s t n e q = before-first comma s n e ∙ ap (up_to comma) q

next : (s t r : List ℕ) (n : ℕ) → n ≡ length (up_to comma s) → r ≡ drop (n + 1) s → s ≡ t → r ≡ past comma t
next s t r n e f q = f ∙ after_first comma s n e ∙ ap (past comma) q

module _ (s s1 s2 s3 s4 s5 : List ℕ) (n n1 n2 n3 n4 : ℕ)
    (e : n ≡ length (up_to comma s)) (f : s1 ≡ drop (n + 1) s)
    (e1 : n1 ≡ length (up_to comma s1)) (f1 : s2 ≡ drop (n1 + 1) s1)
    (e2 : n2 ≡ length (up_to comma s2)) (f2 : s3 ≡ drop (n2 + 1) s2)
    (e3 : n3 ≡ length (up_to comma s3)) (f3 : s4 ≡ drop (n3 + 1) s3)
    (e4 : n4 ≡ length (up_to comma s4)) (f4 : s5 ≡ drop (n4 + 1) s4) where
  pub line_parts : count_of comma s ≡ 5 → parsed_fields (take n s) (take n1 s1) (take n2 s2) (take n3 s3) (take n4 s4) s5 ≡ parsed_text s
  line_parts five =
      let q1 : s1 ≡ skip 1 s = f ∙ after_first comma s n e in
      let q2 : s2 ≡ skip 2 s = next s1 (skip 1 s) s2 n1 e1 f1 q1 in
      let q3 : s3 ≡ skip 3 s = next s2 (skip 2 s) s3 n2 e2 f2 q2 in
      let q4 : s4 ≡ skip 4 s = next s3 (skip 3 s) s4 n3 e3 f3 q3 in
      let q5 : s5 ≡ skip 5 s = next s4 (skip 4 s) s5 n4 e4 f4 q4 in
      rw (
        parsed_text_lem s,
        eq-eqb (count_of comma s) 5 five,
        before-first comma s n e,
        part s1 (skip 1 s) n1 e1 q1,
        part s2 (skip 2 s) n2 e2 q2,
        part s3 (skip 3 s) n3 e3 q3,
        part s4 (skip 4 s) n4 e4 q4,
        q5,
      )

-- past the end of a text there is no line
pub front_none : (text : List ℕ) (at : ℕ) → length text ≤ at → wrong 1 ≡ front_line (drop at text)
unfolding up_to
front_none text at h = sym (ap front_line (drop_of_length-le text h) ∙ front_line_lem [])
