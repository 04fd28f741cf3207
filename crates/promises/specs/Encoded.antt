-- M-112: what the boolean encoder wrote is read back, symbol by symbol; and a room that is long enough for every recoded tile.
use Rattle.std.specs.Prelude.{◌+◌, ◌≤◌, ◌<◌, ◌≡◌, ◌∷◌, ◌++◌}
use Rattle.numbers.specs.Words.{ℕ, zero, suc, arith, refl, sym, ◌∙◌, ap, List, [], length, length-append}
use Rattle.reader.specs.declared.boolean.Reader.{Reader}
use Rattle.reader.specs.Reading.{Given, given, missing, Bytes, first_reader, CodedSymbol, Answers}
use Rattle.reader.specs.ReadingLaws.{Each, nil, cons, Byte}
use Rattle.modes.specs.Modes.{Macroblock}
use Rattle.lent.specs.Memory.{Memory}
use Rattle.macroblock.specs.Macroblock.{Step, finished, no_modes, no_tokens}
use Rattle.choices.specs.Choices.{Call, number_of}
use Rattle.picture.specs.Picture.{Picture, State, step_at, next_of, pictured_of, begun_of, picture_of, cost_of}
use Rattle.writer.specs.Encoder.{encode_of}
use Rattle.writer.specs.EncoderLaws.{encoded}
use Rattle.writer.specs.WriteLaws.{write_few, encode_long}
use Rattle.recode.specs.Recode.{modes_asked, read_by, tokens_from, tokens_read, first_of, one_partition, recoded_bytes}
use Rattle.promises.specs.Stops.{macroblocks}
use Rattle.promises.specs.Cost.{token_symbols, symbols_from}
use Rattle.promises.specs.CostLaws.{cost_is}
use Rattle.promises.specs.RecodedLaws.{not_refused, token_bytes}

-- ---- what was written is read back
-- each symbol has a byte for its probability
pub data Probable : List CodedSymbol → Type 0 where
  no_symbol : Probable []
  one_more : {q : CodedSymbol} {qs : List CodedSymbol} → q.prob < 256 → Probable qs → Probable (q ∷ qs)

-- a reader opened on the encoder's bytes gives these symbols, asked with their probabilities, and none is missing
pub record ReadBack (qs : List CodedSymbol) : Type 0 where
  pub last : Reader
  pub answers : Answers (encode_of qs) (first_reader (encode_of qs)) qs last

probable_each : {qs : List CodedSymbol} → Probable qs → Each Byte qs
probable_each no_symbol = nil
probable_each (one_more p ps) = cons p (probable_each ps)

-- THE PROMISE: so it is of every list
pub read_back : (qs : List CodedSymbol) → Probable qs → ReadBack qs
read_back qs p = let d = (encoded qs (probable_each p)).read in record { last = d.last; answers = d.answers }

-- ---- the symbols that are written are those that the picture call counts (M-103)
module _ (P : Picture) (k : ℕ) (S : State) where
  read_symbols : read_by P k S ≡ token_symbols P k S
  unfolding read_by
  read_symbols = go (modes_asked P k S) refl
    where
      go : (x : Given Macroblock) → modes_asked P k S ≡ x → read_by P k S ≡ token_symbols P k S
      go missing e = rw (e, read_by)
      go (given m r) e = rw (e, read_by)

tokens_symbols : (n : ℕ) (P : Picture) (k : ℕ) (S : State) → tokens_from n P k S ≡ symbols_from token_symbols n P k S
unfolding tokens_from symbols_from
tokens_symbols zero P k S = refl
tokens_symbols (suc n) P k S = go (λ T. tokens_symbols n P (k + 1) T) (step_at P k S) refl
  where
    go : ((T : State) → tokens_from n P (k + 1) T ≡ symbols_from token_symbols n P (k + 1) T) → (x : Step) → step_at P k S ≡ x → tokens_from (suc n) P k S ≡ symbols_from token_symbols (suc n) P k S
    go ih (finished x) e = rw (e, tokens_from, symbols_from) (λ i. read_symbols P k S i ++ ih (next_of P k S x) i)
    go ih no_modes e = rw (e, tokens_from, symbols_from) (read_symbols P k S)
    go ih no_tokens e = rw (e, tokens_from, symbols_from) (read_symbols P k S)

-- THE PROMISE: of a tile that is answered 0, the first partition, four bytes, and a byte for each token symbol that the picture call counts
pub room_enough : (c : Call) (m : Memory) → Bytes c.bytes → number_of (picture_of c m).answer ≡ 0 → length (recoded_bytes c m) ≤ length (first_of c) + 4 + (cost_of c m).tokens
unfolding tokens_read
room_enough c m y z =
    let n : length (tokens_read c m) ≡ (cost_of c m).tokens = ap length (tokens_symbols (macroblocks c) (pictured_of c) 0 (begun_of c m)) ∙ sym (cost_is c m (not_refused c m y z)).tokens in
    omega (arith, length-append (first_of c) (one_partition c m), encode_long (tokens_read c m) (token_bytes c m y z), write_few (tokens_read c m) (token_bytes c m y z), n)
