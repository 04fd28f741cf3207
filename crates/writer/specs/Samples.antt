-- The definition computed: bytes of a small list, as the RFC's C program writes them; and a carry through two bytes of 255.
use Rattle.std.specs.Prelude.{◌≡◌, ◌∷◌}
use Rattle.numbers.specs.Words.{ℕ, refl, Bool, true, false, []}
use Rattle.reader.specs.Reading.{split_of, CodedSymbol}
use Rattle.writer.specs.Encoder.{add_one_of, carried, shift_out, emit, write_of, write_all, flush_of, encode_of}

abbrev c : ℕ → Bool → CodedSymbol
c p b = record { prob = p; bit = b }

sample : encode_of (c 0 false ∷ c 0 true ∷ c 255 true ∷ c 128 false ∷ c 1 true ∷ c 200 true ∷ c 3 false ∷ c 0 false ∷ c 255 true ∷ c 255 true ∷ c 17 true ∷ c 90 false ∷ c 254 true ∷ c 128 true ∷ []) ≡ 0 ∷ 255 ∷ 100 ∷ 0 ∷ 127 ∷ 254 ∷ 203 ∷ 0 ∷ []
unfolding split_of add_one_of carried shift_out emit write_of write_all flush_of encode_of
sample = refl

sample_carry : shift_out (record { out = 1 ∷ 255 ∷ 255 ∷ []; range = 100; bottom = 2147483653; count = 1 }) ≡ record { out = 2 ∷ 0 ∷ 0 ∷ 0 ∷ []; range = 200; bottom = 10; count = 8 }
unfolding add_one_of carried shift_out
sample_carry = refl
