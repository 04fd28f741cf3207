-- The laws of the call on a key frame that its proofs and its callers cite: which way it goes.
use Rattle.std.specs.Prelude.{◌≡◌}
use Rattle.numbers.specs.Words.{ℕ, zero, suc, arith, refl, sym, ◌∙◌, ap, true, false, List, length, ℤ}
use Rattle.header.specs.Header.{frame_level, present_at_of}
use Rattle.lent.specs.Memory.{Memory, sizes_of}
use Rattle.macroblock.specs.declared.arguments.SymbolCounts.{SymbolCounts}
use Rattle.macroblock.specs.Macroblock.{Planes}
use Rattle.choices.specs.Choices.{call_of, refusal_of, number_of, values_of}
use Rattle.picture.specs.Picture.{Ended, picture_of, planes_in, cost_of}
use Rattle.deblock.specs.Deblock.{deblock_of}
use Rattle.frame.specs.declared.take.Answer.{Answer}
use Rattle.frame.specs.declared.take.Taken.{Taken}
use Rattle.frame.specs.Take.{taken_of, stored_of, into_of}
use Rattle.frame.specs.TakeLaws.{into_length, into_stored, into_refused, stored_is}
use Rattle.frame.specs.PassesLaws.{entries_whole}
use Rattle.key_frame.specs.declared.Shown.{Shown}
use Rattle.key_frame.specs.KeyFrame.{frame_call, frame_planes, with_planes, framed, key_framed, refused_shown, frame_shown, shown_frame, key_frame_of}

-- ---- the loop filter: on, or off
module _ (header : List ℤ) (a : Answer) (strengths : List ℕ) (d : Planes) where
  pub filter_on : present_at_of header frame_level ≡ true → frame_planes header a strengths d ≡ (deblock_of d strengths a.tile.width a.tile.height a.simple).planes
  unfolding frame_planes
  filter_on e = rw (e, frame_planes)

  pub filter_off : present_at_of header frame_level ≡ false → frame_planes header a strengths d ≡ d
  unfolding frame_planes
  filter_off e = rw (e, frame_planes)

-- ---- the picture, deblocked, from what decoding and the filter gave
module _ (b : List ℕ) (a : Answer) (header : List ℤ) (m : Memory) where
  pub shown_is : {e : Ended} {reads : SymbolCounts} {d : Planes} {n k : ℕ} → e ≡ picture_of (call_of b a.tile header) m → reads ≡ cost_of (call_of b a.tile header) m
      → d ≡ frame_planes header a e.mem.strengths (planes_in e.mem) → n ≡ number_of e.answer → k ≡ values_of e.answer
      → framed (record { number = n; finished = k; reads = reads; taken = a }) (with_planes e.mem d) ≡ frame_shown b a header m
  shown_is p q f g h = rw (f, g, h, q, p) refl

-- ---- the call
module _ (b : List ℕ) (old : List ℤ) (m : Memory) where
  -- a refusal, as the code makes it
  as_refused : {n : ℕ} {q : Shown} → q ≡ refused_shown n → key_framed (refused_shown n) old m ≡ key_frame_of b old m → key_framed q old m ≡ key_frame_of b old m
  as_refused e f = ap (λ (q : Shown). key_framed q old m) e ∙ f

  -- refused by the header
  untaken : (n : ℕ) → n ≡ (into_of b old).answer.number → (n ≡ 0 → ⊥) → key_framed (refused_shown n) old m ≡ key_frame_of b old m
  unfolding key_frame_of
  untaken zero e f = absurd (f refl)
  untaken (suc n) e f = rw (← e, key_frame_of)

  pub key_frame_entries : {q : Shown} → q ≡ refused_shown 9 → (length old ≡ 1096 → ⊥) → key_framed q old m ≡ key_frame_of b old m
  key_frame_entries r h = as_refused r (untaken 9 (ap (λ (t : Taken). t.answer.number) (into_length b old refl h)) (λ (e : 9 ≡ 0). omega arith))

  module _ {t : Taken} (e : t ≡ taken_of b) (long : length old ≡ 1096) where
    pub key_frame_untaken : {q : Shown} → q ≡ refused_shown t.answer.number → (t.answer.number ≡ 0 → ⊥) → key_framed q old m ≡ key_frame_of b old m
    key_frame_untaken r f = as_refused r (untaken t.answer.number (ap (λ (t : Taken). t.answer.number) (into_refused b old e long f)) f)

    module _ (z : t.answer.number ≡ 0) {bad : ℕ} (g : bad ≡ refusal_of (call_of b t.answer.tile t.header) (sizes_of m)) where
      wide : length t.header ≡ 1096
      wide = ap (λ (t : Taken). length t.header) e ∙ entries_whole b

      taken : (into_of b old).answer.number ≡ 0
      taken = sym (ap (λ (t : Taken). t.answer.number) (into_stored b old {l = stored_of old t.header} e refl long wide z)) ∙ z

      call_is : bad ≡ refusal_of (frame_call b) (sizes_of m)
      call_is = g ∙ ap (λ (t : Taken). refusal_of (call_of b t.answer.tile t.header) (sizes_of m)) e

      pub key_frame_lengths : {q : Shown} → q ≡ refused_shown bad → (bad ≡ 0 → ⊥) → key_framed q old m ≡ key_frame_of b old m
      unfolding key_frame_of
      key_frame_lengths r f = as_refused r (go bad call_is f)
        where
          go : (n : ℕ) → n ≡ refusal_of (frame_call b) (sizes_of m) → (n ≡ 0 → ⊥) → key_framed (refused_shown n) old m ≡ key_frame_of b old m
          go zero e f = absurd (f refl)
          go (suc n) e f = rw (taken, ← e, key_frame_of)

      pub key_frame_shown : bad ≡ 0 → {q : Shown} {h : List ℤ} {n : Memory} → h ≡ stored_of old t.header → framed q n ≡ frame_shown b t.answer t.header m → key_framed q h n ≡ key_frame_of b old m
      unfolding key_frame_of
      key_frame_shown f {q} {h} {n} p s =
          let r : refusal_of (frame_call b) (sizes_of m) ≡ 0 = sym call_is ∙ f in
          let w : key_frame_of b old m ≡ shown_frame b m = rw (taken, r, key_frame_of) in
          let k : h ≡ (taken_of b).header = p ∙ stored_is old t.header (long ∙ sym wide) ∙ ap (λ (t : Taken). t.header) e in
          let v : framed q n ≡ frame_shown b (taken_of b).answer (taken_of b).header m = s ∙ ap (λ (t : Taken). frame_shown b t.answer t.header m) e in
          (λ i. key_framed (v i).answer (k i) (v i).mem) ∙ sym w

      -- THE LAW for a frame that is shown
      pub key_frame_is : bad ≡ 0 → key_frame_of b old m ≡ shown_frame b m
      key_frame_is f = sym (key_frame_shown f {h = stored_of old t.header} refl refl) ∙ (λ i. let f = frame_shown b (e i).answer (e i).header m in key_framed f.answer (whole i) f.mem)
        where
          whole : stored_of old t.header ≡ (taken_of b).header
          whole = stored_is old t.header (long ∙ sym wide) ∙ ap (λ (t : Taken). t.header) e
