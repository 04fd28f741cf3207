-- Reading without a stop: a reader that is out of range stands for a byte that was missing, and whatever reads on from it leaves it so.
-- Code of this shape has no branch for a missing byte, and its proof is the same chain as its grammar.
use Rattle.std.specs.Prelude.{◌≡◌}
use Rattle.numbers.specs.Words.{ℕ, true, false, List}
use Rattle.reader.specs.Reading.{Reader, given, missing, valid_of, Reading, run}

-- over the partition s, the part m leads from the reader r to the reader q and gives a; or a byte is missing, and q is out of range
pub record Reads {A : Type 0} (m : Reading A) (s : List ℕ) (r : Reader) (a : A) (q : Reader) : Type 0 where
  pub went : valid_of s r ≡ true → valid_of s q ≡ true → run m s r ≡ given a q
  pub stopped : valid_of s r ≡ true → valid_of s q ≡ false → run m s r ≡ missing
  pub stuck : valid_of s r ≡ false → valid_of s q ≡ false
