-- The proofs of what is promised of the picture on the screen: `key_frame_ends`, `key_frame_shows`, `key_frame_isolated`, `key_frame_damaged`,
-- `cut_frames`, `old_memory_shown_the_same`.
use Rattle.std.specs.Prelude.{◌+◌, ◌*◌, ◌/◌, ◌≤◌, ◌<◌, ◌≡◌, ◌⊎◌}
use Rattle.numbers.specs.Words.{ℕ, zero, suc, arith, refl, sym, ◌∙◌, ap, Bool, true, false, inl, inr, ⊎_elim, lt_or, eq_or, List, get_or, ℤ, pos, negsuc}
use Rattle.reader.specs.ReadingLaws.{Bytes}
use Rattle.header.specs.Header.{frame_level, entry, present_of, present_at_of}
use Rattle.tile.specs.Tile.{contents_of, span_at_of}
use Rattle.tile.specs.PartitionsLaws.{part_same}
use Rattle.lent.specs.Memory.{Memory, sizes_of, packed, Sized}
use Rattle.planes.specs.Paint.{sample_at}
use Rattle.macroblock.specs.Macroblock.{Planes}
use Rattle.choices.specs.Choices.{refusal_of, number_of, values_of}
use Rattle.choices.specs.ChoicesLaws.{refusal_named, fine_lengths}
use Rattle.picture.specs.Picture.{Ended, picture_of, planes_in, cost_of}
use Rattle.deblock.specs.Deblock.{deblock_of}
use Rattle.frame.specs.declared.take.Answer.{Answer}
use Rattle.frame.specs.declared.take.Taken.{Taken}
use Rattle.frame.specs.Take.{taken_of}
use Rattle.frame.specs.Passes.{InOrder, unplaced}
use Rattle.frame.specs.PassesLaws.{taken_is_fine, taken_or_refused, taken_in_order}
use Rattle.frame.specs.HeadLaws.{taken_head, taken_cut, taken_same}
use Rattle.key_frame.specs.KeyFrame.{frame_call, frame_planes, frame_filtered, with_planes, KeyFramed, key_framed, shown_of, shown_frame, key_frame_of}
use Rattle.key_frame.specs.KeyFrameLaws.{filter_on, filter_off, key_frame_entries, key_frame_untaken, key_frame_lengths, key_frame_is}
use Rattle.promises.specs.Refusals.{Fine, number, refused_changes_nothing, first_check_decides, old_memory_does_not_matter}
use Rattle.promises.specs.Frame.{taken_passes, taken_answers}
use Rattle.promises.specs.Places.{Plane, luma, blue, red, plane_side, sample_of, block_at}
use Rattle.promises.specs.Grey.{InPlane, done}
use Rattle.promises.specs.GreyLaws.{finished_or_grey}
use Rattle.promises.specs.Isolation.{Alike}
use Rattle.promises.proofs.Isolated.{isolated}
use Rattle.promises.specs.CostLaws.{same_costs, old_memory_costs_the_same}
use Rattle.promises.specs.Deblocked.{plane, sample_after}
use Rattle.promises.proofs.DeblockedLaws.{grey_stays, isolated_deblocked}
use Rattle.promises.specs.KeyFrame.{frame_tile, Shows, KeyFrameEnds, KeyFrameShows, AlikeFrames, DamagedFrames, CutFrames, shown_unplaced, KeyFrameIsolated, KeyFrameDamaged}

-- ---- a level of 0 is not there, any other is
no_level : (header : List ℤ) → entry header frame_level ≡ pos 0 → present_at_of header frame_level ≡ false
no_level header e = ap present_of e

some_level : (x : ℤ) → (x ≡ pos 0 → ⊥) → present_of x ≡ true
some_level (pos zero) n = absurd (n refl)
some_level (pos (suc k)) n = refl
some_level (negsuc k) n = refl

-- ---- a sample after the loop filter, on or off
module _ (header : List ℤ) (a : Answer) (m : Memory) (wide : ℕ) where
  sample_on : present_at_of header frame_level ≡ true → (p : Plane) (x r : ℕ)
      → sample_of wide p x r (frame_filtered header a m) ≡ sample_at (plane p (deblock_of (planes_in m) m.strengths a.tile.width a.tile.height a.simple).planes) (wide * plane_side p) x r
  sample_on e p x r = ap (λ (d : Planes). sample_of wide p x r (with_planes m d)) (filter_on header a m.strengths (planes_in m) e) ∙ go p
    where
      go : (p : Plane) → let d = (deblock_of (planes_in m) m.strengths a.tile.width a.tile.height a.simple).planes in sample_of wide p x r (with_planes m d) ≡ sample_at (plane p d) (wide * plane_side p) x r
      go luma = refl
      go blue = refl
      go red = refl

  all_off : present_at_of header frame_level ≡ false → frame_filtered header a m ≡ m
  all_off e = ap (with_planes m) (filter_off header a m.strengths (planes_in m) e)

-- ---- one frame
module _ (b : List ℕ) (y : Bytes b) (old : List ℤ) (m : Memory) where
  shown_fine : Shows b old m → Fine (frame_call b) m
  shown_fine s = taken_passes b y s.taken m s.sized

  shown_as : Shows b old m → key_frame_of b old m ≡ shown_frame b m
  shown_as s = key_frame_is b old m {t = taken_of b} refl s.entries s.taken {bad = 0} (sym (shown_fine s)) refl

  lengths_number : (taken_of b).answer.number ≡ 0 → (Sized packed (frame_tile b).width (frame_tile b).height (sizes_of m) → ⊥) → refusal_of (frame_call b) (sizes_of m) ≡ 4
  lengths_number e n =
      let c = frame_call b in
      let p = taken_is_fine b y e in
      let f : number c m ≡ 4 = (first_check_decides c m).four p.sides p.counted p.each (λ l. n l.sizes) in
      ⊎_elim
      (λ z. absurd (n (fine_lengths c (sizes_of m) z).sizes))
      (λ z. sym (refusal_named c (sizes_of m) z) ∙ sym (ap (λ (o : Ended). number_of o.answer) (refused_changes_nothing c m z).is) ∙ f)
      (eq_or (refusal_of c (sizes_of m)) 0)

  pub key_frame_ends : KeyFrameEnds b old m
  key_frame_ends = record {
    nine = λ n. sym (key_frame_entries b old m refl n);
    untaken = λ l n. sym (key_frame_untaken b old m refl l refl n);
    numbers = ⊎_elim (λ z. inl z) (λ r. inr r.number) (taken_or_refused b);
    four = λ l e n.
        let f = lengths_number e n in
        sym (key_frame_lengths b old m {t = taken_of b} refl l e {bad = 4} (sym f) refl (λ (z : 4 ≡ 0). omega arith));
    shown = λ s. rw (shown_as s) (taken_answers b y s.taken m s.sized);
  }

  module _ (s : Shows b old m) where
    abbrev left : Memory
    left = (picture_of (frame_call b) m).mem

    abbrev header : List ℤ
    header = (taken_of b).header

    grey_shown : (a : Plane) (x r : ℕ) → InPlane (frame_call b) a x r → done (frame_call b) m ≤ block_at ((frame_tile b).width / 16) a x r
        → sample_of ((frame_tile b).width / 16) a x r (frame_filtered header (taken_of b).answer left) ≡ 128
    grey_shown a x r i h = go (present_at_of header frame_level) refl
      where
        go : (v : Bool) → present_at_of header frame_level ≡ v → sample_of ((frame_tile b).width / 16) a x r (frame_filtered header (taken_of b).answer left) ≡ 128
        go true e = sample_on header (taken_of b).answer left ((frame_tile b).width / 16) e a x r ∙ (grey_stays (frame_call b) m y (shown_fine s) (taken_of b).answer.simple).grey a x r i h
        go false e = ap (sample_of ((frame_tile b).width / 16) a x r) (all_off header (taken_of b).answer left ((frame_tile b).width / 16) e) ∙ (finished_or_grey (frame_call b) m y (shown_fine s)).grey a x r i h

    pub key_frame_shows : KeyFrameShows b m (key_frame_of b old m)
    key_frame_shows =
        rw (shown_as s)
        (record {
          number = refl;
          finished = refl;
          reads = refl;
          taken = refl;
          header = refl;
          plain = λ e. all_off header (taken_of b).answer left ((frame_tile b).width / 16) (no_level header e);
          deblocked = λ n. ap (with_planes left) (filter_on header (taken_of b).answer left.strengths (planes_in left) (some_level (entry header frame_level) n));
          grey = grey_shown;
        })

-- old memory, and old entries, do not matter
pub old_memory_shown_the_same : (b : List ℕ) → Bytes b → (old new : List ℤ) (m n : Memory) → Shows b old m → Shows b new n → key_frame_of b old m ≡ key_frame_of b new n
old_memory_shown_the_same b y old new m n s t =
    let c = frame_call b in
    let e = shown_fine b y old m s in
    let f = shown_fine b y new n t in
    let p = old_memory_does_not_matter c m n e f in
    let q = old_memory_costs_the_same c m n e f in
    shown_as b y old m s
    ∙ (λ i. key_framed (shown_of (p i) (q i) (taken_of b).answer) (taken_of b).header (frame_filtered (taken_of b).header (taken_of b).answer (p i).mem))
    ∙ sym (shown_as b y new n t)

-- ---- two frames, alike in all but token partition p
module _ (p : ℕ) (b c : List ℕ) (y : Bytes b) (z : Bytes c) (a : AlikeFrames p b c) (old new : List ℤ) (m n : Memory) (s : Shows b old m) (t : Shows c new n) where
  one : unplaced (taken_of b) ≡ unplaced (taken_of c)
  one = taken_same b c s.taken t.taken (record { same = a.head })

  alike : Alike p (frame_call b) (frame_call c)
  alike = record {
    width = ap (λ (x : Taken). x.answer.tile.width) one;
    height = ap (λ (x : Taken). x.answer.tile.height) one;
    count = ap (λ (x : Taken). x.answer.tile.count) one;
    header = ap (λ (x : Taken). x.header) one;
    form = refl;
    reader = ap (λ (x : Taken). x.answer.tile.reader) one;
    first = part_same b c (frame_tile b).first (frame_tile c).first (taken_is_fine b y s.taken).cut.first (taken_is_fine c z t.taken).cut.first (ap (λ (x : Taken). x.answer.tile.first.len) one)
        (λ i l. a.head ((frame_tile b).first.start + i) (omega arith) ∙ ap (λ (x : Taken). get_or c (x.answer.tile.first.start + i) 0) one);
    tokens = a.tokens;
  }

  abbrev wide : ℕ
  wide = (frame_tile b).width / 16

  abbrev header₂ : List ℤ
  header₂ = (taken_of b).header

  abbrev answer : Answer
  answer = (taken_of b).answer

  -- what the second shows: its loop filter is the first's
  abbrev other : KeyFramed
  other = let u = frame_call c in key_framed (shown_of (picture_of u n) (cost_of u n) (taken_of c).answer) (taken_of c).header (frame_filtered header₂ answer (picture_of u n).mem)

  second_as : key_frame_of c new n ≡ other
  unfolding frame_planes
  second_as = shown_as c z new n t ∙ ap (λ (x : Taken). let u = frame_call c in key_framed (shown_of (picture_of u n) (cost_of u n) (taken_of c).answer) (taken_of c).header (frame_filtered x.header x.answer (picture_of u n).mem)) (sym one)

  pub key_frame_isolated : KeyFrameIsolated p ((frame_tile b).width / 16) ((frame_tile b).height / 16) (key_frame_of b old m) (key_frame_of c new n)
  key_frame_isolated =
      let second = frame_call c in
      let f = shown_fine b y old m s in
      let g = shown_fine c z new n t in
      let i = isolated p (frame_call b) second m n alike f g y z in
      let k = same_costs p (frame_call b) second m n alike f g in
      let d = isolated_deblocked p (frame_call b) second m n alike f g y z answer.simple in
      let sides : (a : Plane) (x r : ℕ) → sample_after second (picture_of second n).mem answer.simple a x r
      ≡ sample_at (plane a (deblock_of (planes_in (picture_of second n).mem) (picture_of second n).mem.strengths answer.tile.width answer.tile.height answer.simple).planes) (wide * plane_side a) x r =
      λ a x r. let e = (picture_of second n).mem in
      ap (λ (k : Taken). sample_at (plane a (deblock_of (planes_in e) e.strengths k.answer.tile.width k.answer.tile.height answer.simple).planes) (k.answer.tile.width / 16 * plane_side a) x r) (sym one) in
      let samples : (v : Bool) → present_at_of header₂ frame_level ≡ v → (a : Plane) (x r : ℕ) → x < wide * plane_side a → r + 3 < p * plane_side a
      → sample_of wide a x r (frame_filtered header₂ answer (picture_of (frame_call b) m).mem) ≡ sample_of wide a x r (frame_filtered header₂ answer (picture_of second n).mem) =
      λ v. elim v as (λ w. present_at_of header₂ frame_level ≡ w → (a : Plane) (x r : ℕ) → x < wide * plane_side a → r + 3 < p * plane_side a
      → sample_of wide a x r (frame_filtered header₂ answer (picture_of (frame_call b) m).mem) ≡ sample_of wide a x r (frame_filtered header₂ answer (picture_of second n).mem)) [
        | true ↦ λ g a x r h l. sample_on header₂ answer (picture_of (frame_call b) m).mem wide g a x r ∙ d.samples a x r h l ∙ sides a x r ∙ sym (sample_on header₂ answer (picture_of second n).mem wide g a x r)
        | false ↦ λ g a x r h l. ap (sample_of wide a x r) (all_off header₂ answer (picture_of (frame_call b) m).mem wide g) ∙ i.samples a x r h (omega arith) ∙ sym (ap (sample_of wide a x r) (all_off header₂ answer (picture_of second n).mem wide g))
      ] in
      rw (shown_as b y old m s, second_as)
      (record {
        taken = ap (λ (x : Taken). x.answer) one;
        header = ap (λ (x : Taken). x.header) one;
        samples = samples (present_at_of header₂ frame_level) refl;
        modes = i.modes;
        strengths = i.strengths;
        stops = λ h. i.stops (number_of (picture_of (frame_call b) m).answer) (values_of (picture_of (frame_call b) m).answer) h (refl, refl);
        stops_too = λ h. i.stops_too (number_of (picture_of second n).answer) (values_of (picture_of second n).answer) h (refl, refl);
        kinds = i.kinds;
        no_row = λ h. λ j. key_framed (shown_of (i.no_row h j) (k.no_row h j) (one j).answer) (one j).header (frame_filtered header₂ answer (i.no_row h j).mem);
      })

-- ---- where the partitions of a frame lie
module _ (b : List ℕ) (y : Bytes b) (e : (taken_of b).answer.number ≡ 0) where
  order : InOrder (frame_tile b)
  order = taken_in_order b y e

  -- partition p not before partition 0
  from_first : (p : ℕ) → p < (frame_tile b).count → (span_at_of (frame_tile b) 0).start ≤ (span_at_of (frame_tile b) p).start
  from_first zero l = omega arith
  from_first (suc k) l = omega (arith, order.tokens 0 (suc k) (omega arith) l)

-- ---- a frame that was cut in its last token partition: it is taken
pub cut_frames : (p : ℕ) (b c : List ℕ) → Bytes b → (taken_of b).answer.number ≡ 0 → CutFrames p b c → ((taken_of c).answer.number ≡ 0) × AlikeFrames p b c
cut_frames p b c y e a =
    let f = taken_is_fine b y e in
    let d = taken_cut b c p e f.counted.most a.last a.upto (record { same = a.same }) in
    let o = order b y e in (
      d.0,
      record {
        head = λ i l. a.same i (omega (arith, o.first, from_first b y e p (omega (arith, a.last))));
        tokens = λ q l n.
            let k : q < p = omega (arith, a.last, n) in
            let v = o.tokens q p k (omega (arith, a.last)) in
            part_same b c (span_at_of (frame_tile b) q) (span_at_of (frame_tile b) q) (f.cut.tokens q l) (record { fits = omega (arith, v, a.upto) }) refl (λ i h. a.same ((span_at_of (frame_tile b) q).start + i) (omega (arith, v)))
            ∙ ap (contents_of c) (d.1 q k);
      },
    )

-- ---- frames of one length
-- what lies at the same places too is the same
all_placed : (E F : KeyFramed) → shown_unplaced E ≡ shown_unplaced F → E.answer.taken ≡ F.answer.taken → E ≡ F
all_placed E F u t = λ j. key_framed (record { number = (u j).answer.number; finished = (u j).answer.finished; reads = (u j).answer.reads; taken = t j }) (u j).header (u j).mem

module _ (p : ℕ) (b c : List ℕ) (y : Bytes b) (a : DamagedFrames p b c) (e : (taken_of b).answer.number ≡ 0) where
  one_header : taken_of c ≡ taken_of b
  one_header = taken_head b c e a.long (record { same = λ i l. a.same i (inl (omega (arith, from_first b y e p a.below))) })

  apart : (q : ℕ) → q < (frame_tile b).count → (q ≡ p → ⊥) → (i : ℕ) → i < (span_at_of (frame_tile b) q).len
      → ((span_at_of (frame_tile b) q).start + i < (span_at_of (frame_tile b) p).start) ⊎ ((span_at_of (frame_tile b) p).start + (span_at_of (frame_tile b) p).len ≤ (span_at_of (frame_tile b) q).start + i)
  apart q l n i k =
      let o = order b y e in
      ⊎_elim
      (λ h. inl (omega (arith, o.tokens q p h a.below)))
      (λ h. inr (omega (arith, o.tokens p q (omega (arith, n)) l)))
      (lt_or q p)

  damaged_alike : AlikeFrames p b c
  damaged_alike = record {
    head = λ i l. a.same i (inl (omega (arith, (order b y e).first, from_first b y e p a.below)));
    tokens = λ q l n.
        let o = (taken_is_fine b y e).cut.tokens q l in
        part_same b c (span_at_of (frame_tile b) q) (span_at_of (frame_tile b) q) o (rw a.long at o) refl (λ i k. a.same ((span_at_of (frame_tile b) q).start + i) (apart q l n i k))
        ∙ ap (λ (x : Taken). contents_of c (span_at_of x.answer.tile q)) (sym one_header);
  }

pub key_frame_damaged : (p : ℕ) (b c : List ℕ) → Bytes b → Bytes c → DamagedFrames p b c → (old new : List ℤ) (m n : Memory) → Shows b old m → Shows c new n
    → KeyFrameDamaged p ((frame_tile b).width / 16) ((frame_tile b).height / 16) (key_frame_of b old m) (key_frame_of c new n)
key_frame_damaged p b c y z a old new m n s t =
    let i = key_frame_isolated p b c y z (damaged_alike p b c y a s.taken) old new m n s t in
    let k : (key_frame_of b old m).answer.taken ≡ (key_frame_of c new n).answer.taken =
    (key_frame_shows b y old m s).taken ∙ ap (λ (x : Taken). x.answer) (sym (one_header p b c y a s.taken)) ∙ sym (key_frame_shows c z new n t).taken in
    record { isolated = i; taken = k; no_row = λ h. all_placed (key_frame_of b old m) (key_frame_of c new n) (i.no_row h) k }
