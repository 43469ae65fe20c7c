-- An unmarked line: all its operands are public, so it does the same in states that agree in the public places, a bit state and its
-- image among them. Assumes nothing.
use mathlib.Core.Path.{◌≡◌, sym, ap, ap₂, ◌∙◌, subst₂}
use mathlib.Core.Bool.{cond}
use mathlib.Core.List.{List}
use Prim.Native.Nat.{ℕ, suc, ◌+◌, ◌-◌}
use native.Mathlib.Omega.{arith}
use lib.ListN.{length, get_or, set, get_or-eq_default}
use lib.Seq.{set_out}
use Rattle.model.specs.declared.Layout.{Layout}
use Rattle.model.specs.declared.Mark.TheVariants.{Unmarked}
use Rattle.model.specs.declared.Opcode.{Opcode}
use Rattle.model.specs.declared.Operand.{Operand}
use Rattle.model.specs.declared.Operand.TheVariants.{Empty, Literal, Register, Cell, PublicCell, SensitiveCell, TableCell}
use Rattle.model.specs.declared.Target.{Target}
use Rattle.model.specs.declared.Kind.TheVariants.{Public}
use Rattle.model.specs.Places.{State, kind, place, value}
use Rattle.model.specs.Step.{weight, alu, taken, target_line, result, next, after, on_bus, bus_after, distances, row}
use Rattle.model.specs.Images.{BitState, SamePublic}
use Rattle.model.proofs.PlaceLaws.{bits-set, same_both}
use Rattle.model.proofs.Operands.{PublicOperand, steady_public, place_same, address_same, value_same, Of, public_register_of, public_cell_of}
use Rattle.model.proofs.Acceptance.{mk, Plain}
use Rattle.model.proofs.Pieces.{held, plus4}
use Rattle.model.proofs.ImageLaws.{zeros, rails, rails-length, same_held, public_bit, write_public}
use Rattle.model.proofs.MarkedLines.{Weights, Related}

-- two states of full length that agree in the public places, and a line with public operands
module _ (s t : State) (ls : length s ≡ 544) (lt : length t ≡ 544) (h : SamePublic s t) (d a b : Operand) (P : Plain d a b) where
  old_same : (o : Operand) → PublicOperand o → get_or s (place o s) 0 ≡ get_or t (place o t) 0
  unfolding place value
  old_same Empty g = get_or-eq_default s 0 (omega arith) ∙ sym (get_or-eq_default t 0 (omega arith))
  old_same (Literal n) g = get_or-eq_default s 0 (omega arith) ∙ sym (get_or-eq_default t 0 (omega arith))
  old_same (Register n) g = value_same s t h (Register n) g
  old_same (Cell n) g = value_same s t h (Cell n) g
  old_same (PublicCell r k) g = value_same s t h (PublicCell r k) g
  old_same (SensitiveCell r k) g = absurd g
  old_same (TableCell r k) g = absurd g

  pub result_same : (op : Opcode) (g : Target) → result (mk Unmarked op d a b g) s ≡ result (mk Unmarked op d a b g) t
  unfolding result
  result_same op g = ap₂ (alu Unmarked op) (value_same s t h a P.first) (value_same s t h b P.second)

  pub row_same : (op : Opcode) (g : Target) (k β : ℕ) → row (mk Unmarked op d a b g) k s β ≡ row (mk Unmarked op d a b g) k t β
  unfolding row distances on_bus
  row_same op g k β =
      rw (result_same op g, old_same d P.destination, address_same s t h a (steady_public a P.first), address_same s t h b (steady_public b P.second), address_same s t h d (steady_public d P.destination))

  pub bus_same : (op : Opcode) (g : Target) (β : ℕ) → bus_after (mk Unmarked op d a b g) s β ≡ bus_after (mk Unmarked op d a b g) t β
  unfolding bus_after on_bus
  bus_same op g β =
      rw (address_same s t h a (steady_public a P.first), address_same s t h b (steady_public b P.second), address_same s t h d (steady_public d P.destination))

  pub next_same : (op : Opcode) (g : Target) (k : ℕ) → next (mk Unmarked op d a b g) k s ≡ next (mk Unmarked op d a b g) k t
  unfolding next
  next_same op g k = ap₂ (λ (x y : ℕ). cond (taken op x y) (target_line g) (suc k)) (value_same s t h a P.first) (value_same s t h b P.second)

  pub after_same : (op : Opcode) (g : Target) → SamePublic (after (mk Unmarked op d a b g) s) (after (mk Unmarked op d a b g) t)
  unfolding after
  after_same op g =
      subst₂ (λ (i x : ℕ). SamePublic (set s (place d s) (result (mk Unmarked op d a b g) s)) (set t i x))
      (place_same s t h d (steady_public d P.destination)) (result_same op g) (same_both s t (place d s) (result (mk Unmarked op d a b g) s) ls lt h)

-- the same written in the bit state and in the image
module _ (L : Layout) (r : List ℕ) (bits : BitState (zeros r)) (x y z : ℕ) (w : Weights) (wx : weight x ≡ w.one) (wy : weight y ≡ w.two) (wz : weight z ≡ w.three) where
  pub held-length : length (held x y z (rails L r)) ≡ 544
  held-length = omega (arith, rails-length L r bits)

  nothing_written : (n : ℕ) → Related L (set (zeros r) 544 n) (set (held x y z (rails L r)) 544 n) w
  nothing_written n =
      record {
        tail = r;
        x = x;
        y = y;
        z = z;
        bits = bits;
        source = set_out (zeros r) 544 n (omega (arith, bits.long));
        image = set_out (held x y z (rails L r)) 544 n (omega (arith, held-length));
        one = wx;
        two = wy;
        three = wz;
      }

  public_written : (i n : ℕ) → Of Public i → Related L (set (zeros r) i n) (set (held x y z (rails L r)) i n) w
  public_written i n o =
      let q : ℕ = i - 4 in
      let e : i ≡ plus4 q = omega (arith, o.past) in
      let k : kind (plus4 q) ≡ Public = ap kind (sym e) ∙ o.is in
      record {
        tail = set r q n;
        x = x;
        y = y;
        z = z;
        bits = bits-set (zeros r) (plus4 q) n bits (public_bit (plus4 q) n k);
        source = ap (λ (j : ℕ). set (zeros r) j n) e;
        image = ap (λ (j : ℕ). set (held x y z (rails L r)) j n) e ∙ ap (held x y z) (write_public L r bits q n k);
        one = wx;
        two = wy;
        three = wz;
      }

  written : (d : Operand) → PublicOperand d → (n : ℕ) → Related L (set (zeros r) (place d (zeros r)) n) (set (held x y z (rails L r)) (place d (zeros r)) n) w
  unfolding place
  written Empty g n = nothing_written n
  written (Literal m) g n = nothing_written n
  written (Register m) g n = public_written m n (public_register_of m g)
  written (Cell m) g n = public_written (32 + m) n (public_cell_of m g)
  written (PublicCell b k) g n = public_written (place (PublicCell b k) (zeros r)) n (public_cell_of _ (omega arith))
  written (SensitiveCell b k) g n = absurd g
  written (TableCell b k) g n = absurd g

  pub plain_related : (op : Opcode) (d a b : Operand) (g : Target) → Plain d a b
      → Related L (after (mk Unmarked op d a b g) (zeros r)) (after (mk Unmarked op d a b g) (held x y z (rails L r))) w
  unfolding after
  plain_related op d a b g P =
      let v = held x y z (rails L r) in
      let h = same_held L r bits x y z in
      subst₂ (λ (i n : ℕ). Related L (set (zeros r) (place d (zeros r)) (result (mk Unmarked op d a b g) (zeros r))) (set v i n) w)
      (place_same (zeros r) v h d (steady_public d P.destination))
      (result_same (zeros r) v bits.long held-length h d a b P op g)
      (written d P.destination (result (mk Unmarked op d a b g) (zeros r)))
