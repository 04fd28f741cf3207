-- What the rescue call leaves, as the picture call's promises say it: contexts and limits in range, strength records that know their segment;
-- and after deblocking `rescue_grey_stays` and, demand 3, `rescue_isolated_deblocked`, at the end.
use Rattle.std.specs.Prelude.{◌+◌, ◌-◌, ◌*◌, ◌≤◌, ◌<◌, ◌≡◌, ◌||◌}
use Rattle.numbers.specs.Words.{ℕ, arith, refl, sym, ◌∙◌, ap, subst, Bool, true, not, ⊎_elim, lit<, lt_or, List, get_or}
use Rattle.reader.specs.ReadingLaws.{Bytes}
use Rattle.header.specs.Frame.{level_at}
use Rattle.filter.specs.declared.strengths.Strength.{Strength}
use Rattle.filter.specs.StrengthsLaws.{limit_most}
use Rattle.modes.specs.Modes.{kinds_of}
use Rattle.macroblock.specs.Macroblock.{Finished}
use Rattle.lent.specs.Memory.{Columns, mode_width, strength_width, mode_record, strength_record, strength_at_of, Memory, sizes_of}
use Rattle.choices.specs.Choices.{Call}
use Rattle.choices.specs.ChoicesLaws.{fine_side}
use Rattle.picture.specs.Picture.{pictured_of, picture_of}
use Rattle.rescue.specs.Rescue.{RescueEnded, rescue_of}
use Rattle.promises.specs.Refusals.{Fine}
use Rattle.promises.specs.Places.{mode_byte, strength_byte}
use Rattle.promises.specs.KeptLaws.{sound}
use Rattle.promises.specs.Grey.{done}
use Rattle.promises.specs.Valid.{limits_at_most_189}
use Rattle.promises.specs.Isolation.{Alike}
use Rattle.promises.specs.Segments.{SameKinds}
use Rattle.promises.specs.SegmentsLaws.{same_kinds}
use Rattle.promises.specs.Deblocked.{GreyStays}
use Rattle.promises.proofs.DeblockedLaws.{unrefused, Left, limit_byte, left_stays, all_deblocked, left_isolated}
use Rattle.promises.specs.Rescue.{RescueFine, saved, Saves, RescueIsolatedDeblocked}
use Rattle.promises.proofs.RescueLaws.{rescue_fine_too, saves, rescue_isolated}
use Rattle.promises.specs.Remade.{Remade}
use Rattle.promises.proofs.RemadeLaws.{last_saved, remade, live_last}

module _ (t : Call) (m : Memory) (marks : List ℕ) (e : RescueFine t m marks) (b : Bytes t.bytes) where
  abbrev left : Memory
  left = (rescue_of t m marks).mem

  -- the picture call refuses nothing either
  fine : Fine t m
  fine = rescue_fine_too t m marks e

  -- what is the picture call's, and what is grey
  kept : Saves t m marks
  kept = saves t m marks e b

  -- every macroblock is marked 0, 1 or 2
  by_mark : (C : ℕ → Type 0) → ((k : ℕ) → k < done t m → C k) → ((i : ℕ) → Remade t m marks (done t m) i → C (done t m + i)) → ((k : ℕ) → saved t m marks ≤ k → C k) → (k : ℕ) → C k
  by_mark C whole modes grey k = ⊎_elim (whole k) (λ h. ⊎_elim (λ l. from_modes_lem h l) (grey k) (lt_or k (saved t m marks))) (lt_or k (done t m))
    where
      from_modes_lem : done t m ≤ k → k < saved t m marks → C k
      from_modes_lem h l = let i = k - done t m in subst C {x = done t m + i} {y = k} (omega arith) (modes i (remade t m marks e b i (omega arith)))

  -- THE PROMISE: every context in column memory is in range
  pub rescue_contexts_valid : Columns t.form (rescue_of t m marks).mem.columns
  rescue_contexts_valid = rw (last_saved t m marks e).memory (live_last t m marks e b).contexts

  -- a rebuilt macroblock's limit comes from a level of at most 63
  remade_limit : (i : ℕ) (r : Remade t m marks (done t m) i) → r.made.strength.limit ≤ 189
  remade_limit i r =
      let f = (pictured_of t).frame in
      let x = r.made.modes in
      subst (λ (s : Strength). s.limit ≤ 189) (sym r.empty) (limit_most (level_at f x.small x.segment) f.sharp (x.small || not true) ((sound t m b fine).shared.sound.levels x.small x.segment))

  -- THE PROMISE: every macroblock's limit is at most 189
  pub rescue_limits_at_most_189 : (k : ℕ) → (strength_at_of (rescue_of t m marks).mem.strengths k).limit ≤ 189
  rescue_limits_at_most_189 = by_mark (λ (k : ℕ). (strength_at_of left.strengths k).limit ≤ 189)
      (λ k h. let w = kept.strengths (k * strength_width + 0) (omega arith) in omega (arith, limit_byte left.strengths k, w, limit_byte (picture_of t m).mem.strengths k, limits_at_most_189 t m b fine k))
      (λ i r. let w = r.strength 0 (lit< tt) in omega (arith, limit_byte left.strengths (done t m + i), w, remade_limit i r))
      (λ k h. let w = kept.no_strengths (k * strength_width + 0) (omega arith) in omega (arith, limit_byte left.strengths k, w))

  -- byte j of a strength record is byte o of the mode record, for what every macroblock writes
  kind_same : (j o : ℕ) → j < strength_width → o < mode_width → ((k : ℕ) → strength_byte (k * strength_width + j) (picture_of t m).mem ≡ mode_byte (k * mode_width + o) (picture_of t m).mem)
      → ((x : Finished) → get_or (strength_record x.strength (kinds_of x.modes)) j 0 ≡ get_or (mode_record (kinds_of x.modes) x.modes.modes) o 0)
      → (k : ℕ) → strength_byte (k * strength_width + j) left ≡ mode_byte (k * mode_width + o) left
  kind_same j o hj ho before made = by_mark (λ (k : ℕ). strength_byte (k * strength_width + j) left ≡ mode_byte (k * mode_width + o) left)
      (λ k h. kept.strengths (k * strength_width + j) (omega arith) ∙ before k ∙ sym (kept.modes (k * mode_width + o) (omega arith)))
      (λ i r. r.strength j hj ∙ made r.made ∙ sym (r.modes o ho))
      (λ k h. kept.no_strengths (k * strength_width + j) (omega arith) ∙ sym (kept.no_modes (k * mode_width + o) (omega arith)))

  -- THE PROMISE: of every macroblock, grey ones too, the strength record knows the segment and the small byte of the mode record
  pub rescue_same_kinds : SameKinds (rescue_of t m marks).mem
  rescue_same_kinds =
      let s = same_kinds t m b fine in
      record { segment = kind_same 4 0 (lit< tt) (lit< tt) s.segment (λ x. refl); small = kind_same 5 2 (lit< tt) (lit< tt) s.small (λ x. refl) }

  -- what deblocking is told of it
  rescue_left : Left t left (saved t m marks)
  rescue_left = record {
    fine = unrefused t (fine_side t (sizes_of m) fine) left (last_saved t m marks e).state (live_last t m marks e b) (last_saved t m marks e).memory rescue_limits_at_most_189;
    grey = kept.grey;
    no_strengths = kept.no_strengths;
  }

  -- THE PROMISE: deblocking never refuses it, and grey stays grey
  pub rescue_grey_stays : (simple : Bool) → GreyStays t (rescue_of t m marks).mem (saved t m marks) simple
  rescue_grey_stays = left_stays t left (saved t m marks) rescue_left

-- THE PROMISE: demand 3 after deblocking
pub rescue_isolated_deblocked : (p : ℕ) (t u : Call) (m n : Memory) (k l : List ℕ) → Alike p t u → RescueFine t m k → RescueFine u n l → Bytes t.bytes → Bytes u.bytes → (simple : Bool) → RescueIsolatedDeblocked p t u m n k l simple
rescue_isolated_deblocked p t u m n k l a e f b d simple =
    let i = rescue_isolated p t u m n k l a e f b d in
    record {
      isolated = left_isolated p t u (rescue_of t m k).mem (rescue_of u n l).mem a (rescue_left t m k e b).fine (rescue_left u n l f d).fine
          (record {
            samples = i.samples;
            strengths = i.strengths;
            no_row = λ h. ap (λ (E : RescueEnded). E.mem) (i.no_row h);
            no_difference = λ h. ap (λ (E : RescueEnded). E.mem) (i.no_difference h);
            ignored = λ h. ap (λ (E : RescueEnded). E.mem) (i.ignored h);
          }) simple;
      stops = λ h. all_deblocked a simple (ap (λ (E : RescueEnded). E.mem) (i.stops h));
    }
