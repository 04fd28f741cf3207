-- The proof of what a picture leaves: `finished_or_grey`, at the end.
use Rattle.std.specs.Prelude.{◌+◌, ◌-◌, ◌*◌, ◌/◌, ◌%◌, ◌≤◌, ◌<◌, ◌≡◌, ◌⊎◌}
use Rattle.numbers.specs.Words.{ℕ, suc, add-mul, div-add-mod, div-eq_of_lt-le, mul_comm, one-mul, arith, refl, sym, ◌∙◌, ap, subst, inl, inr, lit<, lt_or, List, length, get_or, replicate, get_or-replicate, length-replicate, get_or_constant}
use Rattle.reader.specs.ReadingLaws.{Bytes}
use Rattle.modes.specs.Modes.{kinds_of}
use Rattle.planes.specs.Places.{Outside, next_row}
use Rattle.macroblock.specs.Macroblock.{Finished, finished}
use Rattle.lent.specs.Memory.{mode_width, strength_width, mode_record, strength_record, Memory}
use Rattle.lent.specs.RecordsLaws.{record_set_in}
use Rattle.choices.specs.Choices.{Call}
use Rattle.picture.specs.Picture.{State, Ended, pictured_of, begun_of, step_at, next_of, picture_of}
use Rattle.picture.specs.PictureLaws.{room_at}
use Rattle.promises.specs.Refusals.{Fine, fine_is}
use Rattle.promises.specs.Reached.{Reached, after}
use Rattle.promises.specs.ReachedLaws.{ending, Last, last, reached_before, Latest, latest}
use Rattle.promises.specs.Stops.{macroblocks}
use Rattle.promises.specs.Places.{Plane, luma, blue, red, plane_of, plane_side, sample_of, mode_byte, strength_byte}
use Rattle.promises.specs.KeptLaws.{Sound, sound, Keeps, keeps_sample, keeps_mode, keeps_strength, live_reached, reached_keeps, rest_keeps}
use Rattle.promises.specs.Grey.{InPlane, Made, done, FinishedOrGrey}

-- ---- places
-- a sample lies outside every macroblock but its own
module _ (wide n k c r : ℕ) (o : k ≡ r / n * wide + c / n → ⊥) where
  held : (i c : ℕ) → i * n ≤ c → c < i * n + n → c / n ≡ i
  held i c a b = div-eq_of_lt-le {k = i} n {m = c} a (omega (arith, add-mul i 1 n, one-mul n))

  same : {a b x y : ℕ} → a ≡ x → b ≡ y → a * wide + b ≡ x * wide + y
  same e f = λ i. e i * wide + f i

  pub other_block : Outside (k % wide * n) (k / wide * n) n c r
  other_block = go (lt_or c (k % wide * n)) (lt_or c (k % wide * n + n)) (lt_or r (k / wide * n)) (lt_or r (k / wide * n + n))
    where
      go : (c < k % wide * n) ⊎ (k % wide * n ≤ c) → (c < k % wide * n + n) ⊎ (k % wide * n + n ≤ c) → (r < k / wide * n) ⊎ (k / wide * n ≤ r) → (r < k / wide * n + n) ⊎ (k / wide * n + n ≤ r)
          → Outside (k % wide * n) (k / wide * n) n c r
      go (inl a) b d e = inl (inl a)
      go (inr a) (inr b) d e = inl (inr b)
      go (inr a) (inl b) (inl d) e = inr (inl d)
      go (inr a) (inl b) (inr d) (inr e) = inr (inr e)
      go (inr a) (inl b) (inr d) (inl e) =
          absurd (o (sym (div-add-mod k wide) ∙ ap (λ (i : ℕ). i + k % wide) (mul_comm wide (k / wide)) ∙ sym (same (held (k / wide) r d e) (held (k % wide) c a b))))

-- ---- blank memory
module _ (t : Call) (m : Memory) (z : Sound (pictured_of t) (begun_of t m)) where
  plane_long : (a : Plane) → length (plane_of a m) ≡ t.tile.height / 16 * plane_side a * (t.tile.width / 16 * plane_side a)
  plane_long luma = sym (length-replicate (length m.y) 128) ∙ z.live.y
  plane_long blue = sym (length-replicate (length m.u) 128) ∙ z.live.u ∙ ap (λ (w : ℕ). t.tile.height / 16 * 8 * w) {x = t.tile.width / 16 * 16 / 2} {y = t.tile.width / 16 * 8} (omega arith)
  plane_long red = sym (length-replicate (length m.v) 128) ∙ z.live.v ∙ ap (λ (w : ℕ). t.tile.height / 16 * 8 * w) {x = t.tile.width / 16 * 16 / 2} {y = t.tile.width / 16 * 8} (omega arith)

  blank_plane : (a : Plane) → plane_of a (begun_of t m).mem ≡ replicate (length (plane_of a m)) 128
  blank_plane luma = refl
  blank_plane blue = refl
  blank_plane red = refl

  blank_sample : (a : Plane) (c r : ℕ) → InPlane t a c r → sample_of (t.tile.width / 16) a c r (begun_of t m).mem ≡ 128
  blank_sample a c r h =
      ap (λ (p : List ℕ). get_or p (r * (t.tile.width / 16 * plane_side a) + c) 0) (blank_plane a)
      ∙ get_or-replicate (length (plane_of a m)) (r * (t.tile.width / 16 * plane_side a) + c) 128 0
      (rw (plane_long a) (omega (arith, h.across, next_row r (t.tile.height / 16 * plane_side a) (t.tile.width / 16 * plane_side a) h.down)))

-- ---- a macroblock that is finished
-- where the picture ends
last_is : (t : Call) (m : Memory) → Fine t m → Last (pictured_of t) (begun_of t m) (macroblocks t) (picture_of t m)
last_is t m e = subst (Last (pictured_of t) (begun_of t m) (macroblocks t)) (sym (fine_is t m e)) (last (ending (pictured_of t) (begun_of t m) (macroblocks t)))

module _ (t : Call) (m : Memory) (e : Fine t m) (z : Sound (pictured_of t) (begun_of t m)) where
  end : Last (pictured_of t) (begun_of t m) (macroblocks t) (picture_of t m)
  end = last_is t m e

  -- what no later one touches
  stays : (g : Memory → ℕ) {k : ℕ} {S : State} {x : Finished} → k < macroblocks t → Reached (pictured_of t) (begun_of t m) k S → step_at (pictured_of t) k S ≡ finished x
      → ((j : ℕ) → k < j → j < macroblocks t → Keeps (pictured_of t) g j) → g (picture_of t m).mem ≡ g (next_of (pictured_of t) k S x).mem
  stays g h r s f = ap (λ (E : Ended). g E.mem) (fine_is t m e) ∙ rest_keeps z g (omega arith) (after r s) (λ j l i. f j (omega arith) i)

  made_at : {k : ℕ} {S : State} → k < macroblocks t → Latest (pictured_of t) (begun_of t m) k S → Made t m k
  made_at {k} h l =
      let live = live_reached z (omega arith) l.reached in
      let room = room_at (pictured_of t) l.found k z.shared live h in
      record {
        found = l.found;
        made = l.made;
        reached = l.reached;
        step = l.step;
        samples = λ a c r i o. stays (sample_of (t.tile.width / 16) a c r) h l.reached l.step
            (λ j g v. keeps_sample z j v a c r i.across (other_block (t.tile.width / 16) (plane_side a) j c r (λ q. omega arith)));
        kinds = λ i o. stays (mode_byte (k * mode_width + i)) h l.reached l.step (λ j g v. keeps_mode z j v (k * mode_width + i) (inl (omega arith)))
            ∙ record_set_in mode_width l.found.mem.modes k (mode_record (kinds_of l.made.modes) l.made.modes.modes) (lit< tt) room.modes i o;
        strength = λ i o. stays (strength_byte (k * strength_width + i)) h l.reached l.step (λ j g v. keeps_strength z j v (k * strength_width + i) (inl (omega arith)))
            ∙ record_set_in strength_width l.found.mem.strengths k (strength_record l.made.strength (kinds_of l.made.modes)) (lit< tt) room.strengths i o;
      }

  -- what none that is finished touches
  untouched : (g : Memory → ℕ) → ((j : ℕ) → j < done t m → j < macroblocks t → Keeps (pictured_of t) g j) → g (picture_of t m).mem ≡ g (begun_of t m).mem
  untouched g f = ap g end.mem ∙ reached_keeps z g end.upto end.reached (λ j l. f j l (omega (arith, end.upto)))

  grey_all : FinishedOrGrey t m
  grey_all = record {
    before = λ k h. made_at (omega (arith, end.upto)) (latest (reached_before (suc k) (omega arith) end.reached).reached);
    grey = λ a c r i h. untouched (sample_of (t.tile.width / 16) a c r)
        (λ j l v. keeps_sample z j v a c r i.across (other_block (t.tile.width / 16) (plane_side a) j c r (λ q. omega arith)))
        ∙ blank_sample t m z a c r i;
    no_kinds = λ i h. untouched (mode_byte i) (λ j l v. keeps_mode z j v i (inr (omega arith))) ∙ get_or_constant (length m.modes) i 0;
    no_strengths = λ i h. untouched (strength_byte i) (λ j l v. keeps_strength z j v i (inr (omega arith))) ∙ get_or_constant (length m.strengths) i 0;
    state = end.state;
    reached = end.reached;
    memory = end.mem;
  }

-- DEMAND 1, after 0, 6 and 7. That the bytes are bytes is what the call's type says
pub finished_or_grey : (t : Call) (m : Memory) → Bytes t.bytes → Fine t m → FinishedOrGrey t m
finished_or_grey t m b e = grey_all t m e (sound t m b e)
