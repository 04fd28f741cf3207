-- A case file run through the picture call, over memory of the lengths that its size asks, each byte 165; and what is told of it.
use Rattle.std.specs.Prelude.{◌*◌, ◌/◌, ◌&&◌}
use Rattle.numbers.specs.Words.{ℕ, true, false, leb, List, replicate}
use Rattle.tile.specs.Tile.{blocks_of}
use Rattle.lent.specs.Memory.{Memory, memory_of, column_width, mode_width, strength_width}
use Rattle.choices.specs.Choices.{number_of, values_of}
use Rattle.picture.specs.Picture.{Ended, picture_of}
use Rattle.casefile.specs.declared.run.Sums.{Sums}
use Rattle.casefile.specs.declared.run.Hashes.{Hashes}
use Rattle.casefile.specs.declared.run.Ran.{Ran}
use Rattle.casefile.specs.CaseFile.{case_width, case_height, well_formed_of, given_of}
use Rattle.casefile.specs.Measures.{sum_of, fnv_of}

-- the memory that is lent for a picture of w by h, each byte 165
abbrev pub lent_of : ℕ → ℕ → Memory
lent_of w h =
    memory_of
    (replicate (w * h) 165)
    (replicate (w / 2 * (h / 2)) 165)
    (replicate (w / 2 * (h / 2)) 165)
    (replicate (column_width * (w / 16)) 165)
    (replicate (mode_width * blocks_of w h) 165)
    (replicate (strength_width * blocks_of w h) 165)

-- the sum of a plane, 0 after 1 to 5
unfoldable pub sum_after_of : ℕ → List ℕ → ℕ
sum_after_of number l = elim (leb 1 number && leb number 5) [ true ↦ 0 | false ↦ sum_of l ]

-- the hash of each lent memory after the call
abbrev pub hashes_of : Memory → Hashes
hashes_of m = record { y = fnv_of m.y; u = fnv_of m.u; v = fnv_of m.v; columns = fnv_of m.columns; modes = fnv_of m.modes; strengths = fnv_of m.strengths }

-- the sums of the three planes after a call that answered this number
abbrev pub sums_of : ℕ → Memory → Sums
sums_of number m = record { y = sum_after_of number m.y; u = sum_after_of number m.u; v = sum_after_of number m.v }

-- what is told of a call: its number, k, the sums, the hashes
abbrev pub report_of : Ended → Ran
report_of e = record {
  number = number_of e.answer;
  k = values_of e.answer;
  sums = sums_of (number_of e.answer) e.mem;
  hashes = hashes_of e.mem;
}

-- what is told of a file that is not well-formed: 10, and zeros
abbrev pub malformed_ran : Ran
malformed_ran = record {
  number = 10;
  k = 0;
  sums = record { y = 0; u = 0; v = 0 };
  hashes = record { y = 0; u = 0; v = 0; columns = 0; modes = 0; strengths = 0 };
}

-- THE RUN of a file's bytes: the picture call where it is well-formed
unfoldable pub ran_of : List ℕ → Ran
ran_of s = elim (well_formed_of s) [ true ↦ report_of (picture_of (given_of s) (lent_of (case_width s) (case_height s))) | false ↦ malformed_ran ]
