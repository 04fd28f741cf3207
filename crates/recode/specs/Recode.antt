-- M-112. A tile's tokens in one partition: what its macroblocks read of their token partitions, in raster order, the same symbols with the
-- same probabilities, written by the boolean encoder (RFC 6386, section 7.3) behind a copy of the first partition.
use Rattle.std.specs.Prelude.{◌+◌, ◌∷◌, ◌++◌}
use Rattle.numbers.specs.Words.{ℕ, zero, suc, true, false, leb, List, [], length, get_or, drop, replicate}
use Rattle.reader.specs.Reading.{Given, given, missing, no_reader_of, Reading, run, CodedSymbol, trace}
use Rattle.modes.specs.Modes.{Macroblock, modes_of}
use Rattle.residual.specs.Residual.{Model, residual_of}
use Rattle.header.specs.Frame.{factors_at}
use Rattle.lent.specs.Memory.{Memory}
use Rattle.tile.specs.declared.Tile.{Tile}
use Rattle.tile.specs.Tile.{contents_of, no_span, blocks_of}
use Rattle.macroblock.specs.Macroblock.{finished, no_modes, no_tokens}
use Rattle.choices.specs.Choices.{Call, number_of}
use Rattle.picture.specs.Picture.{Picture, State, column_of, partition_of, around_at, step_at, next_of, pictured_of, begun_of, picture_of}
use Rattle.writer.specs.Encoder.{encode_of}
use Rattle.recode.specs.declared.Recoded.{Recoded}
use Rattle.recode.specs.declared.tokens.TokensRecoded.{TokensRecoded}

-- ---- the symbols
-- what macroblock k asks of the first partition: its modes (RFC 6386, section 19.3)
abbrev pub modes_asked : Picture → ℕ → State → Given Macroblock
modes_asked P k S = let a = around_at P S (column_of P k) in run (modes_of P.frame.announced a.top.modes a.left.modes) P.first S.reader

-- what it asks of its row's token partition, its modes being m: its tokens (section 13)
abbrev pub token_grammar : Picture → ℕ → State → Macroblock → Reading Model
token_grammar P k S m =
    let a = around_at P S (column_of P k) in
    residual_of P.table (factors_at P.frame m.segment) m.small m.skip a.top.flags a.left.flags

-- the symbols that it reads there
unfoldable pub read_by : Picture → ℕ → State → List CodedSymbol
read_by P k S =
    elim (modes_asked P k S) [
      | missing ↦ []
      | given m r ↦ trace (token_grammar P k S m) (P.token (partition_of P k)) (get_or S.readers (partition_of P k) no_reader_of)
    ]

-- those of n macroblocks from number k on, in raster order, until one is refused; that one's with them
unfoldable pub tokens_from : ℕ → Picture → ℕ → State → List CodedSymbol
tokens_from zero P k S = []
tokens_from (suc n) P k S =
    elim (step_at P k S) [
      | finished x ↦ read_by P k S ++ tokens_from n P (k + 1) (next_of P k S x)
      | no_modes ↦ read_by P k S
      | no_tokens ↦ read_by P k S
    ]

-- those of a call
unfoldable pub tokens_read : Call → Memory → List CodedSymbol
tokens_read c m = tokens_from (blocks_of c.tile.width c.tile.height) (pictured_of c) 0 (begun_of c m)

-- the one token partition
abbrev pub one_partition : Call → Memory → List ℕ
one_partition c m = encode_of (tokens_read c m)

-- ---- the tokens alone: their answer, the memory of the picture call, and the room
pub record TokensEnded : Type 0 where
  pub answer : TokensRecoded
  pub mem : Memory
  pub out : List ℕ

-- the three as one: a number and how many bytes were written
abbrev pub tokens_ended : TokensRecoded → Memory → List ℕ → TokensEnded
tokens_ended answer mem out = record { answer = answer; mem = mem; out = out }

-- the partition at the start of the room, what lies behind it unchanged; 16 where it exceeds the room
unfoldable pub tokens_into : Call → Memory → Memory → List ℕ → TokensEnded
tokens_into c m mem out =
    elim (leb (length (one_partition c m)) (length out)) [
      | true ↦ tokens_ended (record { number = 0; len = length (one_partition c m) }) mem (one_partition c m ++ drop (length (one_partition c m)) out)
      | false ↦ tokens_ended (record { number = 16; len = 0 }) mem out
    ]

-- the picture call, whose number comes back where it is not 0, the room unchanged; else its tokens
unfoldable pub tokens_of : Call → Memory → List ℕ → TokensEnded
tokens_of c m out =
    elim (number_of (picture_of c m).answer) [
      | zero ↦ tokens_into c m (picture_of c m).mem out
      | suc n ↦ tokens_ended (record { number = suc n; len = 0 }) (picture_of c m).mem out
    ]

-- ---- the bytes: the first partition copied, then the one token partition
abbrev pub first_of : Call → List ℕ
first_of c = contents_of c.bytes c.tile.first

-- both
abbrev pub recoded_bytes : Call → Memory → List ℕ
recoded_bytes c m = first_of c ++ one_partition c m

-- the tile of such bytes, n of the first partition and k of the token partition
abbrev pub one_tile_of : Tile → (n k : ℕ) → Tile
one_tile_of t n k = record {
  first = record { start = 0; len = n };
  tokens = record { start = n; len = k } ∷ replicate 7 no_span;
  reader = t.reader;
  count = 1;
  width = t.width;
  height = t.height;
}

-- that of a call's
abbrev pub recoded_tile : Call → Memory → Tile
recoded_tile c m = one_tile_of c.tile (length (first_of c)) (length (one_partition c m))

-- ---- the answer: 0 and the tile, or the number of a refusal and zeros
abbrev pub recoded_done : Tile → Recoded
recoded_done t = record { number = 0; tile = t }

-- a refusal
abbrev pub recoded_refused : ℕ → Recoded
recoded_refused n = record { number = n; tile = record { first = no_span; tokens = replicate 8 no_span; reader = no_reader_of; count = 0; width = 0; height = 0 } }

-- ---- the call: its answer, the memory of the picture call, and the room
pub record RecodeEnded : Type 0 where
  pub answer : Recoded
  pub mem : Memory
  pub out : List ℕ

-- the three as one
abbrev pub recode_ended : Recoded → Memory → List ℕ → RecodeEnded
recode_ended answer mem out = record { answer = answer; mem = mem; out = out }

-- bytes at the start of the room, what lies behind them unchanged, and the tile that they are; 16 where they exceed it
unfoldable pub recoded_into : Call → Memory → Memory → List ℕ → RecodeEnded
recoded_into c m mem out =
    elim (leb (length (recoded_bytes c m)) (length out)) [
      | true ↦ recode_ended (recoded_done (recoded_tile c m)) mem (recoded_bytes c m ++ drop (length (recoded_bytes c m)) out)
      | false ↦ recode_ended (recoded_refused 16) mem out
    ]

-- THE CALL: the picture call, whose number comes back where it is not 0, the room unchanged; else the tile recoded
unfoldable pub recode_of : Call → Memory → List ℕ → RecodeEnded
recode_of c m out =
    elim (number_of (picture_of c m).answer) [
      | zero ↦ recoded_into c m (picture_of c m).mem out
      | suc n ↦ recode_ended (recoded_refused (suc n)) (picture_of c m).mem out
    ]
