-- An answer packed into one number, for C and Rust. Assumes nothing.
use Rattle.std.specs.Prelude.{cond, ℕ, ◌+◌, ◌-◌, ◌*◌, ◌^◌, ltb, get_or}
use Rattle.model.specs.Answers.{Report, done, refused}

-- a line as far as 32 bits hold it: the text of a conversion may be of any length
unfoldable pub placed : ℕ → ℕ
placed line = cond (ltb line (2 ^ 32 - 1)) line (2 ^ 32 - 1)

-- number × 2^32 + value: of success 0 and the count, of a refusal its number and line
abbrev pub packed : Report → ℕ
packed (done values) = get_or values 0 0
packed (refused number line) = number * 2 ^ 32 + placed line

-- of a run and a verdict: ending × 2^32 + counter × 2^16 + steps (a leak has its line for the counter), of a refusal number × 2^48 + line
abbrev pub packed_run : Report → ℕ
packed_run (done values) = get_or values 0 0 * 2 ^ 32 + get_or values 1 0 * 2 ^ 16 + get_or values 2 0
packed_run (refused number line) = number * 2 ^ 48 + line
