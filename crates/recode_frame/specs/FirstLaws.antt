-- The first partition whole, read and written again: its symbols are bytes and few, and what the code writes of them.
use Rattle.std.specs.Prelude.{◌+◌, ◌*◌, ◌/◌, ◌≤◌, ◌<◌, ◌≡◌, ◌++◌}
use Rattle.numbers.specs.Words.{ℕ, zero, suc, mul-le-mul, arith, refl, sym, ◌∙◌, ap, subst, List, length, set, drop, replicate, length-append, ℤ}
use Rattle.header.specs.declared.frame.Announced.{Announced}
use Rattle.header.specs.Frame.{announced_of}
use Rattle.header.specs.FrameLaws.{Probabilities, announced_bytes}
use Rattle.modes.specs.Modes.{bottom_of, right_of}
use Rattle.modes.specs.ModesLaws.{modes_within}
use Rattle.reader.specs.declared.boolean.Reader.{Reader}
use Rattle.reader.specs.Reading.{given, first_reader, Reading, run, Within, ends, asks, CodedSymbol, trace, Follows, stop, take}
use Rattle.reader.specs.ReadingLaws.{Bytes, first_valid, within_bind, within_more, Each, nil, cons, Byte, each_append, trace_within, trace_bytes}
use Rattle.tile.specs.declared.Tile.{Tile}
use Rattle.tile.specs.Tile.{blocks_of}
use Rattle.wide.specs.declared.wide.Wide.{Wide}
use Rattle.wide.specs.Wide.{widen_of}
use Rattle.wide.specs.WideLaws.{Sim, sim_widen}
use Rattle.writer.specs.declared.Writer.{Writer}
use Rattle.writer.specs.Encoder.{Encoder, fresh, write_all, flush_of, encode_of}
use Rattle.writer.specs.EncoderLaws.{fresh_ready}
use Rattle.writer.specs.WriteLaws.{write_append, write_grows, write_few}
use Rattle.writer.specs.Room.{written_of, fresh_writer, ended_of, flush_answer}
use Rattle.writer.specs.KeptLaws.{Kept, kept_fresh, Finished, kept_flush}
use Rattle.recode.specs.declared.pipe.Pipe.{Pipe}
use Rattle.recode.specs.Copies.{nothing, Gave}
use Rattle.frame.specs.declared.fields.Header.{Header}
use Rattle.frame.specs.Header.{literal, header}
use Rattle.frame.specs.HeaderLaws.{header_within}
use Rattle.recode_frame.specs.RecodeFrame.{before_count, after_count, no_count, header_symbols, modes_from, no_tops}
use Rattle.recode_frame.specs.SplitLaws.{cut_apart, symbols_are, recounted}
use Rattle.recode_frame.specs.HeaderCopies.{Copied, Swapped}
pub use Rattle.recode_frame.specs.First.{cut_symbols, HeaderRecounted, Sized, tile_modes, first_symbols, FirstWritten, Rewrites}

-- ---- the symbols are bytes, and few
follows_bytes : {A : Type 0} {P : A → Type 0} {n : ℕ} {m : Reading A} {xs : List CodedSymbol} {a : A} → Within P n m → Follows m xs a → Each Byte xs
follows_bytes (ends h) stop = nil
follows_bytes (asks h f) (take b g) = cons h (follows_bytes (f b) g)

follows_few : {A : Type 0} {P : A → Type 0} {n : ℕ} {m : Reading A} {xs : List CodedSymbol} {a : A} → Within P n m → Follows m xs a → length xs ≤ n
follows_few (ends h) stop = omega arith
follows_few (asks h f) (take b g) = omega (arith, follows_few (f b) g)

modes_few : (a : Announced) → Probabilities a → (wide n k : ℕ) (tops : List (List ℕ)) (left : List ℕ) → Within (λ x. Unit {0}) (n * 119) (modes_from a wide n k tops left)
unfolding modes_from
modes_few a p wide zero k tops left = ends tt
modes_few a p wide (suc n) k tops left =
    within_more (omega arith) (within_bind {n = 119} {k = n * 119} (modes_within a p _ _) (λ m h. modes_few a p wide n (k + 1) (set tops _ (bottom_of m.modes)) (right_of m.modes)))

-- ---- the header, with the count 0
pub header_recounted : {s : List ℕ} {p q u v : Pipe} {room m1 m2 new : List ℕ} → Copied before_count s p room q m1 → Swapped (literal 2) no_count s q m1 u m2 → Copied after_count s u m2 v new → HeaderRecounted s p room v new
header_recounted {s} {v = v} {new = new} a b d h r r2 c e old bytes long sim valid ready kept small =
    let X : List CodedSymbol = trace before_count s r in
    let Z : List CodedSymbol = trace after_count s c.r2 in
    let F1 : Encoder = write_all e X in
    let F2 : Encoder = write_all F1 no_count in
    let F3 : Encoder = write_all F2 Z in
    let is : write_all e (X ++ (no_count ++ Z)) ≡ F3 = write_append e X (no_count ++ Z) ∙ write_append F1 no_count Z in
    let s3 : length F3.out < 9223372036854775808 = omega (arith, ap (λ (n : Encoder). length n.out) is, small) in
    let s2 : length F2.out < 9223372036854775808 = omega (arith, write_grows F2 Z, s3) in
    let s1 : length F1.out < 9223372036854775808 = omega (arith, write_grows F1 no_count, s2) in
    let x = a c.before c.r1 F1 old (record { e = e; r = r; bytes = bytes; long = long; sim = sim; valid = valid; gives = c.first; paid = refl; small = s1; ready = ready; kept = kept }) in
    let y = b c.count c.r1 c.r2 F1 old x.sim x.valid c.middle x.ready x.kept s2 in
    let z = d c.after r2 F3 old (record { e = F2; r = c.r2; bytes = bytes; long = long; sim = y.sim; valid = y.valid; gives = c.last; paid = refl; small = s3; ready = y.ready; kept = y.kept }) in
    subst (λ (F : Encoder). Gave nothing s h r2 F old tt v new) (sym is) (record { value = refl; sim = z.sim; valid = z.valid; ready = z.ready; kept = z.kept })

-- ---- the whole
module _ (s : List ℕ) (t : Tile) (h : List ℤ) (y : Bytes s) (z : Sized t) {x : Header} (e : run header s (first_reader s) ≡ given x t.reader) where
  pub symbols_bytes : Each Byte (first_symbols s t h)
  symbols_bytes = each_append (follows_bytes header_within (recounted (cut_apart s (first_reader s) e))) (trace_bytes s t.reader (modes_few (announced_of h) (announced_bytes h) (t.width / 16) (blocks_of t.width t.height) 0 no_tops (replicate 4 0)))

  pub symbols_few : length (first_symbols s t h) < 9223372036854775000
  symbols_few =
      let a = follows_few header_within (recounted (cut_apart s (first_reader s) e)) in
      let b = trace_within s t.reader (modes_few (announced_of h) (announced_bytes h) (t.width / 16) (blocks_of t.width t.height) 0 no_tops (replicate 4 0)) in
      let c = mul-le-mul {n₁ = t.width / 16} {m₁ = t.height / 16} {n₂ = 1024} {m₂ = 1024} (omega (arith, z.width)) (omega (arith, z.height)) in
      omega (arith, length-append (header_symbols s) (trace (tile_modes t h) s t.reader), a, b, c)

pub rewrites_done : (s : List ℕ) (t : Tile) (h : List ℤ) (room : List ℕ) → Bytes s → length s < 9223372036854775808 → Sized t → {r : Reader} {wide : Wide} {w : Writer} {a : Announced} {q u : Pipe} {m1 m2 new : List ℕ} {n : ℕ} → r ≡ first_reader s → wide ≡ widen_of r → w ≡ fresh_writer
    → HeaderRecounted s (record { reader = wide; writer = w }) room q m1 → a ≡ announced_of h → Copied (modes_from a (t.width / 16) (blocks_of t.width t.height) 0 no_tops (replicate 4 0)) s q m1 u m2 → ended_of n new ≡ flush_answer u.writer m2 → Rewrites s t h room n new
unfolding encode_of
rewrites_done s t h room y long z {q = q} {u} {m1} {m2} {new} {n} opened widened begun a told b f x last e g =
    let c = cut_apart s (first_reader s) e in
    let X : List CodedSymbol = cut_symbols c in
    let Y : List CodedSymbol = trace (tile_modes t h) s t.reader in
    let F1 : Encoder = write_all fresh X in
    let F2 : Encoder = write_all F1 Y in
    let is : write_all fresh (first_symbols s t h) ≡ F2 = ap (λ (l : List CodedSymbol). write_all fresh (l ++ Y)) (symbols_are c) ∙ write_append fresh X Y in
    let s2 : length F2.out < 9223372036854775808 = omega (arith, ap (λ (n : Encoder). length n.out) is, write_few (first_symbols s t h) (symbols_bytes s t h y z e), symbols_few s t h y z e) in
    let s1 : length F1.out < 9223372036854775808 = omega (arith, write_grows F1 Y, s2) in
    let v = first_valid s y in
    let o = a x (first_reader s) t.reader c fresh room y long (subst (λ (x : Wide). Sim s x (first_reader s)) (sym (widened ∙ ap widen_of opened)) (sim_widen s (first_reader s) v)) v fresh_ready (subst (λ (x : Writer). Kept fresh room (written_of x room)) (sym begun) (kept_fresh room)) s1 in
    let m = subst (λ (x : Announced). Copied (modes_from x (t.width / 16) (blocks_of t.width t.height) 0 no_tops (replicate 4 0)) s q m1 u m2) told b tt last F2 room (record { e = F1; r = t.reader; bytes = y; long = long; sim = o.sim; valid = o.valid; gives = g; paid = refl; small = s2; ready = o.ready; kept = o.kept }) in
    let k : Finished F2 room (ended_of n new) = kept_flush m.kept m.ready s2 f in
    let j : flush_of F2 ≡ encode_of (first_symbols s t h) = ap flush_of (sym is) in
    record { long = k.long ∙ ap length j; size = k.size; same = λ l. k.same (subst (λ (w : List ℕ). length w ≤ length room) (sym j) l) ∙ (λ i. j i ++ drop (length (j i)) room) }
