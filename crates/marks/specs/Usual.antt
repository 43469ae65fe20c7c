-- Operands that neither condition 10 nor the bases of condition 12 are about.
-- Assumes nothing.
use Rattle.std.specs.Prelude.{Bool, not, ◌&&◌, ◌||◌}
use Rattle.model.specs.declared.Operand.{Operand}
use Rattle.model.specs.Marks.{is_reserved, has_sensitive_base}

abbrev pub usual : Operand → Bool
usual o = not (is_reserved o || has_sensitive_base o)

abbrev pub all_usual : Operand → Operand → Operand → Bool
all_usual d a b = usual d && (usual a && usual b)
