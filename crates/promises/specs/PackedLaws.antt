-- The proof that the packed form of column memory and the old one are the same state (request M-107): `same_after` and `same_call`, at the end.
use Rattle.std.specs.Prelude.{◌+◌, ◌*◌, ◌/◌, ◌≤◌, ◌<◌, ◌≡◌}
use Rattle.numbers.specs.Words.{ℕ, zero, suc, arith, refl, sym, ◌∙◌, ap, ap₂, subst, ⊎_elim, eq_or, List, length, get_or, set, replicate, length-replicate}
use Rattle.reader.specs.Reading.{no_reader_of}
use Rattle.reader.specs.ReadingLaws.{Bytes}
use Rattle.tile.specs.Tile.{span_at_of}
use Rattle.tile.specs.PartitionsLaws.{part_bytes}
use Rattle.modes.specs.Modes.{kinds_of}
use Rattle.lent.specs.Memory.{Form, packed, old, column_at, column_set, mode_set, strength_set, Memory, sizes_of}
use Rattle.lent.specs.ColumnsLaws.{column_room, column_set_length, column_back, column_other, column_empty}
use Rattle.lent.specs.SizesLaws.{sizes_forms}
use Rattle.macroblock.specs.declared.arguments.SymbolCounts.{SymbolCounts}
use Rattle.macroblock.specs.declared.arguments.Around.{Around}
use Rattle.macroblock.specs.declared.arguments.Readers.{Readers}
use Rattle.macroblock.specs.Macroblock.{reads_of, Planes, Finished, Step, finished, no_modes, no_tokens, step_of}
use Rattle.choices.specs.Choices.{Call, call_in, refusal_of, beside_of}
use Rattle.choices.specs.ChoicesLaws.{refusal_forms, fine_lengths}
use Rattle.picture.specs.CallLaws.{picture_bad, picture_good, shared_start, live_start}
use Rattle.picture.specs.Picture.{Picture, State, Ended, column_of, partition_of, planes_in, place_of, readers_at, around_at, step_at, next_of, pictured_of, begun_of, run_of, picture_of, Shared, Live, plus, reads_at, reads_from, cost_of}
use Rattle.picture.specs.PictureLaws.{step_at_lem, column_below, partition_below, ends_at, live_next, run_none, run_finished, run_no_modes, run_no_tokens}
use Rattle.picture.specs.CountsLaws.{reads_none, reads_finished, reads_no_modes, reads_no_tokens, reads_at_lem, cost_bad, cost_good}
use Rattle.picture.specs.TurnLaws.{Ends}
use Rattle.promises.specs.Refusals.{Fine}
use Rattle.promises.specs.Stops.{macroblocks}
use Rattle.promises.specs.Packed.{Beside, SameState, SameEnd, SameAfter, SameCall}

-- a picture with column memory of this form
abbrev picture_in : Form → Picture → Picture
picture_in form P = record { first = P.first; token = P.token; count = P.count; frame = P.frame; table = P.table; wide = P.wide; high = P.high; form = form }

-- what two macroblocks find that differ in the form alone
record SameFound (n : ℕ) (S T : State) : Type 0 where
  reader : S.reader ≡ T.reader
  readers : S.readers ≡ T.readers
  left : S.left ≡ T.left
  mem : SameState n S.mem T.mem

end_from : {n : ℕ} {E E' F F' : Ended} {r r' s s' : SymbolCounts} → E ≡ E' → F ≡ F' → r ≡ r' → s ≡ s' → SameEnd n E' F' r' s' → SameEnd n E F r s
end_from e f g h b = rw (e, f, g, h) b

end_wide : {w n : ℕ} {E F : Ended} {r s : SymbolCounts} → w ≡ n → SameEnd w E F r s → SameEnd n E F r s
end_wide {E} {F} {r} {s} e b = subst (λ (w : ℕ). SameEnd w E F r s) e b

module _ (P : Picture) where
  abbrev A : Picture
  A = picture_in packed P

  abbrev B : Picture
  B = picture_in old P

  module _ (k : ℕ) (S T : State) (h : k < P.wide * P.high) (s : SameFound P.wide S T) where
    -- what is worked out of what macroblock k finds
    found : {X : Type 0} (F : Readers → Around → Planes → X) → F (readers_at S (partition_of P k)) (around_at A S (column_of P k)) (planes_in S.mem) ≡ F (readers_at T (partition_of P k)) (around_at B T (column_of P k)) (planes_in T.mem)
    found F =
        let m = s.mem.beside in
        λ i. F (record { first = s.reader i; token = get_or (s.readers i) (partition_of P k) no_reader_of })
        (record { top = s.mem.columns (column_of P k) (column_below P k h) i; left = beside_of (column_of P k) (s.left i) })
        (record { y = m.y i; u = m.u i; v = m.v i })

    step_same : step_at A k S ≡ step_at B k T
    step_same =
        step_at_lem A k S
        ∙ found (λ readers around planes. step_of P.first (P.token (partition_of P k)) readers P.frame P.table around (place_of P k) planes)
        ∙ sym (step_at_lem B k T)

    reads_same : reads_at A k S ≡ reads_at B k T
    reads_same = reads_at_lem A k S ∙ found (λ readers around planes. reads_of P.first (P.token (partition_of P k)) readers P.frame P.table around) ∙ sym (reads_at_lem B k T)

    -- and what they leave
    module _ (x : Finished) (z : Ends P.first (P.token (partition_of P k)) (planes_in S.mem) x) where
      column_same : (c : ℕ) → c < P.wide → column_at packed (column_set packed S.mem.columns (column_of P k) x.top) c ≡ column_at old (column_set old T.mem.columns (column_of P k) x.top) c
      column_same c l = ⊎_elim
          (λ (e : c ≡ column_of P k).
          rw e
          (column_back packed S.mem.columns (column_of P k) x.top (column_room packed S.mem.columns s.mem.beside.packed_long (column_below P k h)) z.top_sized z.top
          ∙ sym (column_back old T.mem.columns (column_of P k) x.top (column_room old T.mem.columns s.mem.beside.old_long (column_below P k h)) z.top_sized z.top)))
          (λ e. column_other packed S.mem.columns (column_of P k) x.top c e ∙ s.mem.columns c l ∙ sym (column_other old T.mem.columns (column_of P k) x.top c e))
          (eq_or c (column_of P k))

      next_same : SameFound P.wide (next_of A k S x) (next_of B k T x)
      next_same =
          let m = s.mem.beside in
          record {
            reader = refl;
            readers = λ i. set (s.readers i) (partition_of P k) x.readers.token;
            left = refl;
            mem = record {
              beside = record {
                y = refl;
                u = refl;
                v = refl;
                modes = λ i. mode_set (m.modes i) k (kinds_of x.modes) x.modes.modes;
                strengths = λ i. strength_set (m.strengths i) k x.strength (kinds_of x.modes);
                packed_long = column_set_length packed S.mem.columns (column_of P k) x.top ∙ m.packed_long;
                old_long = column_set_length old T.mem.columns (column_of P k) x.top ∙ m.old_long;
              };
              columns = column_same;
            };
          }

  -- ---- n macroblocks of both
  module _ (s : Shared A) (a : Bytes P.first) (b : (q : ℕ) → q < P.count → Bytes (P.token q)) where
    runs_same : (n k : ℕ) (S T : State) → Live A S → SameFound P.wide S T → k + n ≤ P.wide * P.high → SameEnd P.wide (run_of n A k S) (run_of n B k T) (reads_from n A k S) (reads_from n B k T)
    runs_same zero k S T l f h = end_from (run_none A k S) (run_none B k T) (reads_none A k S) (reads_none B k T) (record { answer = refl; reads = refl; memory = f.mem })
    runs_same (suc n) k S T l f h = go (λ x. runs_same n (k + 1) (next_of A k S x) (next_of B k T x)) (step_at A k S) refl
      where
        below : k < P.wide * P.high
        below = omega arith

        there : {t : Step} → step_at A k S ≡ t → step_at B k T ≡ t
        there e = sym (step_same k S T below f) ∙ e

        go : ((x : Finished) → Live A (next_of A k S x) → SameFound P.wide (next_of A k S x) (next_of B k T x) → k + 1 + n ≤ P.wide * P.high
            → SameEnd P.wide (run_of n A (k + 1) (next_of A k S x)) (run_of n B (k + 1) (next_of B k T x)) (reads_from n A (k + 1) (next_of A k S x)) (reads_from n B (k + 1) (next_of B k T x)))
            → (t : Step) → step_at A k S ≡ t → SameEnd P.wide (run_of (suc n) A k S) (run_of (suc n) B k T) (reads_from (suc n) A k S) (reads_from (suc n) B k T)
        go rest (finished x) e =
            let z = ends_at A S k s l below a (b (partition_of P k) (partition_below P k below s.least)) x e in
            let r = rest x (live_next A S k s l below x z) (next_same k S T below f x z) (omega arith) in
            end_from (run_finished n A k S x e) (run_finished n B k T x (there e)) (reads_finished n A k S x e) (reads_finished n B k T x (there e))
            (record { answer = r.answer; reads = ap₂ plus (reads_same k S T below f) r.reads; memory = r.memory })
        go rest no_modes e =
            end_from (run_no_modes n A k S e) (run_no_modes n B k T (there e)) (reads_no_modes n A k S e) (reads_no_modes n B k T (there e))
            (record { answer = refl; reads = reads_same k S T below f; memory = f.mem })
        go rest no_tokens e =
            end_from (run_no_tokens n A k S e) (run_no_tokens n B k T (there e)) (reads_no_tokens n A k S e) (reads_no_tokens n B k T (there e))
            (record { answer = refl; reads = reads_same k S T below f; memory = f.mem })

-- ---- the two start alike
begun_same : (c : Call) (n : ℕ) (m o : Memory) → Beside n m o → SameFound n (begun_of (call_in packed c) m) (begun_of (call_in old c) o)
begun_same c n m o b = record {
  reader = refl;
  readers = refl;
  left = refl;
  mem = record {
    beside = record {
      y = ap (λ (l : List ℕ). replicate (length l) 128) b.y;
      u = ap (λ (l : List ℕ). replicate (length l) 128) b.u;
      v = ap (λ (l : List ℕ). replicate (length l) 128) b.v;
      modes = ap (λ (l : List ℕ). replicate (length l) 0) b.modes;
      strengths = ap (λ (l : List ℕ). replicate (length l) 0) b.strengths;
      packed_long = length-replicate (length m.columns) 0 ∙ b.packed_long;
      old_long = length-replicate (length o.columns) 0 ∙ b.old_long;
    };
    columns = λ x l. column_empty packed (length m.columns) x ∙ sym (column_empty old (length o.columns) x);
  };
}

-- AFTER EVERY MACROBLOCK. That the bytes are bytes is what the call's type says
pub same_after : (c : Call) (m o : Memory) → Bytes c.bytes → Fine (call_in packed c) m → Beside (c.tile.width / 16) m o → (k : ℕ) → k ≤ macroblocks c → SameAfter k c m o
same_after c m o b e s k h =
    runs_same (pictured_of (call_in packed c)) (shared_start (call_in packed c) m e) (part_bytes c.bytes c.tile.first b) (λ q l. part_bytes c.bytes (span_at_of c.tile q) b)
    k 0 (begun_of (call_in packed c) m) (begun_of (call_in old c) o) (live_start (call_in packed c) m e b) (begun_same c (c.tile.width / 16) m o s) (omega arith)

-- ---- the call: its checks say the same
module _ (c : Call) (n : ℕ) (m o : Memory) (b : Bytes c.bytes) (s : Beside n m o) where
  refused_same : refusal_of (call_in packed c) (sizes_of m) ≡ refusal_of (call_in old c) (sizes_of o)
  refused_same =
      refusal_forms c (sizes_of m) (sizes_of o)
      (sizes_forms c.tile.width c.tile.height n (sizes_of m) (sizes_of o) s.packed_long s.old_long (ap length s.y) (ap length s.u) (ap length s.v) (ap length s.modes) (ap length s.strengths))

  -- past them there are as many columns as the width has
  across : Fine (call_in packed c) m → c.tile.width / 16 ≡ n
  across e = omega (arith, s.packed_long, (fine_lengths (call_in packed c) (sizes_of m) e).sizes.columns)

  ends_same : Fine (call_in packed c) m → SameEnd n (picture_of (call_in packed c) m) (picture_of (call_in old c) o) (cost_of (call_in packed c) m) (cost_of (call_in old c) o)
  ends_same e =
      let f : refusal_of (call_in old c) (sizes_of o) ≡ 0 = sym refused_same ∙ e in
      end_from (picture_good (call_in packed c) m (sym e) refl) (picture_good (call_in old c) o (sym f) refl) (cost_good (call_in packed c) m (sym e) refl) (cost_good (call_in old c) o (sym f) refl)
      (end_wide (across e) (same_after c m o b e (subst (λ (w : ℕ). Beside w m o) (sym (across e)) s) (macroblocks c) (omega arith)))

  call_same : SameCall n c m o
  call_same = go (refusal_of (call_in packed c) (sizes_of m)) refl
    where
      go : (r : ℕ) → refusal_of (call_in packed c) (sizes_of m) ≡ r → SameCall n c m o
      go zero e = let x = ends_same e in record { answer = x.answer; reads = x.reads; others = x.memory.beside; columns = λ f. x.memory }
      go (suc r) e =
          let f : refusal_of (call_in old c) (sizes_of o) ≡ suc r = sym refused_same ∙ e in
          let never : suc r ≡ 0 → ⊥ = λ q. omega arith in
          let p = picture_bad (call_in packed c) m (sym e) never in
          let q = picture_bad (call_in old c) o (sym f) never in
          record {
            answer = ap (λ (E : Ended). E.answer) (sym p) ∙ ap (λ (E : Ended). E.answer) q;
            reads = cost_bad (call_in packed c) m (sym e) never ∙ sym (cost_bad (call_in old c) o (sym f) never);
            others = rw (← p, ← q) s;
            columns = λ g. absurd (never (sym e ∙ g));
          }

-- THE CALL, refusals included
pub same_call : (c : Call) (n : ℕ) (m o : Memory) → Bytes c.bytes → Beside n m o → SameCall n c m o
same_call = call_same
