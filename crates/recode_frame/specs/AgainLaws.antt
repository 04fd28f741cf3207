-- The new first partition read: the same header but for the count, and behind it a reader that answers the symbols of the modes.
use Rattle.std.specs.Prelude.{◌≤◌, ◌≡◌}
use Rattle.numbers.specs.Words.{ℕ, arith, refl, sym, ◌∙◌, ap, List, length, ℤ}
use Rattle.reader.specs.declared.boolean.Reader.{Reader}
use Rattle.reader.specs.Reading.{given, first_reader, run, trace, Answers}
use Rattle.reader.specs.ReadingLaws.{Bytes, Valid, first_valid, run_valid, answers_part}
use Rattle.tile.specs.declared.Tile.{Tile}
use Rattle.writer.specs.Encoder.{encode_of}
use Rattle.writer.specs.EncoderLaws.{encoded}
use Rattle.frame.specs.declared.fields.Header.{Header}
use Rattle.frame.specs.Header.{header}
use Rattle.frame.specs.HeaderLaws.{header_within}
use Rattle.frame.specs.Entries.{entries}
use Rattle.recode_frame.specs.RecodeFrame.{header_symbols}
use Rattle.recode_frame.specs.SplitLaws.{header_from, cut_apart, read_again, symbols_again, entries_same}
use Rattle.recode_frame.specs.FirstLaws.{Sized, tile_modes, first_symbols, symbols_bytes}

-- what is read of it
pub record ReadAgain (s : List ℕ) (t : Tile) (h : List ℤ) (old : Header) : Type 0 where
  pub new : Header
  pub reader : Reader
  pub last : Reader
  pub gives : run header (encode_of (first_symbols s t h)) (first_reader (encode_of (first_symbols s t h))) ≡ given new reader
  pub count : new.partitions ≡ 0
  pub entries' : entries new ≡ entries old
  pub kind : new.filter.kind ≡ old.filter.kind
  pub modes : Answers (encode_of (first_symbols s t h)) reader (trace (tile_modes t h) s t.reader) last
  pub symbols : header_symbols (encode_of (first_symbols s t h)) ≡ header_symbols s
  pub bytes : Bytes (encode_of (first_symbols s t h))
  pub long : 2 ≤ length (encode_of (first_symbols s t h))
  pub valid : Valid (encode_of (first_symbols s t h)) reader

pub first_again : (s : List ℕ) (t : Tile) (h : List ℤ) → Bytes s → Sized t → {x : Header} → run header s (first_reader s) ≡ given x t.reader → ReadAgain s t h x
first_again s t h y z {x} e =
    let c = cut_apart s (first_reader s) e in
    let w = encoded (first_symbols s t h) (symbols_bytes s t h y z e) in
    let d = w.read in
    let p = answers_part (header_symbols s) d.answers in
    record {
      new = header_from c.before 0 c.after;
      reader = p.middle;
      last = d.last;
      gives = read_again c p.before;
      count = refl;
      entries' = entries_same c.before 0 c.count c.after ∙ ap entries (sym c.is);
      kind = ap (λ (u : Header). u.filter.kind) (sym c.is);
      modes = p.after;
      symbols = symbols_again c (encode_of (first_symbols s t h)) p.before;
      bytes = w.bytes;
      long = omega (arith, w.size);
      valid = (run_valid header_within w.bytes (first_valid (encode_of (first_symbols s t h)) w.bytes) (read_again c p.before)).valid;
    }
