-- The call: its two passes over the tokens, its room, its refusals.
use Rattle.std.specs.Prelude.{◌+◌, ◌-◌, ◌≤◌, ◌<◌, ◌≡◌, ◌++◌}
use Rattle.numbers.specs.Words.{Option, Some, None, ℕ, zero, suc, arith, refl, sym, ◌∙◌, ap, subst, ⊎_elim, lit<, lt_or, eq_or, le-leb, lt-leb, List, append_assoc, append-nil, length, take, drop, replicate, drop_of_length-le, length-append, length-drop, take-append-drop, drop-append_seam, drop-drop, length-take-le, take_all, ℤ, Ok, Err}
use Rattle.reader.specs.ReadingLaws.{Bytes}
use Rattle.coefficients.specs.BlockLaws.{table_not}
use Rattle.coefficients.specs.Block.{table_of}
use Rattle.header.specs.declared.frame.Frame.{Frame}
use Rattle.header.specs.FrameLaws.{frame_good}
use Rattle.header.specs.Frame.{framed_of}
use Rattle.lent.specs.Memory.{Memory, memory_of, sizes_of, filled, blank_of, packed}
use Rattle.tile.specs.declared.Tile.{Tile}
use Rattle.tile.specs.Tile.{span_at_of, blocks_of}
use Rattle.tile.specs.PartitionsLaws.{part_bytes}
use Rattle.macroblock.specs.declared.arguments.SymbolCounts.{SymbolCounts}
use Rattle.macroblock.specs.Macroblock.{Step, finished, no_modes, no_tokens}
use Rattle.choices.specs.declared.answer.Refusal.{Refusal}
use Rattle.choices.specs.declared.answer.Stop.TheVariants as Stop
use Rattle.choices.specs.Choices.{Call, call_of, call_in, refusal_of, named, refusal_number_of, number_of, Decoded}
use Rattle.choices.specs.ChoicesLaws.{fine_header, fine_lengths, refusal_most, refusal_named, fine_side, fine_count}
use Rattle.picture.specs.CallLaws.{picture_bad, picture_good, picture_found, shared_start, live_start, shared_found, live_found, run_found}
use Rattle.picture.specs.Picture.{cost_of, Picture, State, Ended, cut_out, pictured_of, start_of, begun_of, step_at, next_of, run_of, picture_of, Live}
use Rattle.picture.specs.CountsLaws.{cost_good}
use Rattle.picture.specs.PictureLaws.{run_none, run_finished, run_no_modes, run_no_tokens}
use Rattle.writer.specs.declared.Writer.{Writer}
use Rattle.writer.specs.Encoder.{Encoder, fresh, write_all, flush_of, encode_of}
use Rattle.writer.specs.Room.{ended_of, flush_answer}
use Rattle.writer.specs.KeptLaws.{Finished, kept_flush}
use Rattle.writer.specs.WriteLaws.{write_few, encode_long}
use Rattle.recode.specs.declared.Recoded.{Recoded}
use Rattle.recode.specs.declared.tokens.TokensRecoded.{TokensRecoded}
use Rattle.recode.specs.Recode.{tokens_from, tokens_read, one_partition, tokens_into, tokens_of, first_of, recoded_bytes, one_tile_of, recoded_tile, recoded_done, recoded_refused, recoded_into, recode_of, TokensEnded, tokens_ended, recode_ended}
use Rattle.recode.specs.RecodeLaws.{Sound, tokens_few, tokens_count_lem, whole_not_refused}
use Rattle.recode.specs.WalkCopies.{Walked, WalkCopies, blocks_most}
pub use Rattle.recode.specs.Pass.{Small, Passed, Passes, Measures, Writes}

-- ---- a picture call answered 0
-- its arguments passed the checks
pub whole_fine : (c : Call) (m : Memory) {M : ℕ} {end : Memory} → picture_of c m ≡ record { answer = Ok M; mem = end } → refusal_of c (sizes_of m) ≡ 0
whole_fine c m e = ⊎_elim (λ (f : refusal_of c (sizes_of m) ≡ 0). f) (λ (f : refusal_of c (sizes_of m) ≡ 0 → ⊥). absurd (whole_not_refused (picture_bad c m refl f ∙ e))) (eq_or (refusal_of c (sizes_of m)) 0)

-- its answer is Whole
pub record IsWhole (e : Ended) : Type 0 where
  pub count : ℕ
  pub same : e ≡ record { answer = Ok count; mem = e.mem }

pub sound_start : (c : Call) (m : Memory) → refusal_of c (sizes_of m) ≡ 0 → Bytes c.bytes → Sound (pictured_of c)
sound_start c m e y = record { shared = shared_start c m e; first = part_bytes c.bytes c.tile.first y; tokens = λ q h. part_bytes c.bytes (span_at_of c.tile q) y }

-- its answers: all macroblocks, modes or tokens that ran out, or an argument refused
data Answered : Ended → Type 0 where
  all : (k : ℕ) (m : Memory) → Answered (record { answer = Ok k; mem = m })
  modes_out : (k : ℕ) (m : Memory) → Answered (record { answer = Err (Stop.NoModes k); mem = m })
  tokens_out : (k : ℕ) (m : Memory) → Answered (record { answer = Err (Stop.NoTokens k); mem = m })
  bad : (r : Refusal) (m : Memory) → refusal_number_of r ≤ 5 → (refusal_number_of r ≡ 0 → ⊥) → Answered (record { answer = Err (Stop.Refused r); mem = m })

run_answered : (n : ℕ) (P : Picture) (k : ℕ) (S : State) → Answered (run_of n P k S)
run_answered zero P k S = subst Answered (sym (run_none P k S)) (all k S.mem)
run_answered (suc n) P k S = go (λ T. run_answered n P (k + 1) T) (step_at P k S) refl
  where
    go : ((T : State) → Answered (run_of n P (k + 1) T)) → (x : Step) → step_at P k S ≡ x → Answered (run_of (suc n) P k S)
    go ih (finished x) f = subst Answered (sym (run_finished n P k S x f)) (ih (next_of P k S x))
    go ih no_modes f = subst Answered (sym (run_no_modes n P k S f)) (modes_out k S.mem)
    go ih no_tokens f = subst Answered (sym (run_no_tokens n P k S f)) (tokens_out k S.mem)

answered : (c : Call) (m : Memory) → Answered (picture_of c m)
answered c m =
    ⊎_elim
    (λ (f : refusal_of c (sizes_of m) ≡ 0). subst Answered (sym (picture_good c m refl f)) (run_answered _ (pictured_of c) 0 (begun_of c m)))
    (λ (f : refusal_of c (sizes_of m) ≡ 0 → ⊥).
    let e = refusal_named c (sizes_of m) f in
    let l = refusal_most c (sizes_of m) in
    subst Answered (picture_bad c m refl f) (bad (named (refusal_of c (sizes_of m))) m (omega arith) (λ z. f (sym e ∙ z))))
    (eq_or (refusal_of c (sizes_of m)) 0)

pub picture_whole : (c : Call) (m : Memory) → number_of (picture_of c m).answer ≡ 0 → IsWhole (picture_of c m)
picture_whole c m = go (answered c m)
  where
    go : {E : Ended} → Answered E → number_of E.answer ≡ 0 → IsWhole E
    go (all k m) e = record { count = k; same = refl }
    go (modes_out k m) e = absurd (let z : 6 ≡ 0 = e in omega arith)
    go (tokens_out k m) e = absurd (let z : 7 ≡ 0 = e in omega arith)
    go (bad r m l f) e = absurd (f e)

-- its numbers are below 8
pub picture_below : (c : Call) (m : Memory) → number_of (picture_of c m).answer < 8
picture_below c m = go (answered c m)
  where
    go : {E : Ended} → Answered E → number_of E.answer < 8
    go (all k m) = lit< tt
    go (modes_out k m) = lit< tt
    go (tokens_out k m) = lit< tt
    go (bad r m l f) = omega arith

dropped : (i : ℕ) (l : List ℕ) → length (drop i l) ≡ length l - i
dropped i l = rw length-drop

-- ---- a pass
pub pass_done : (bytes : List ℕ) (tile : Tile) (header : List ℤ) (columns room : List ℕ) {cols after room1 new : List ℕ} {x : List ℕ} {f : Frame} {w : Writer} {n : ℕ} → Bytes bytes
    → cols ≡ filled columns 0 → Some x ≡ table_of header → Some f ≡ framed_of header → WalkCopies bytes tile f x cols room w after room1 → ended_of n new ≡ flush_answer w room1 → Passes bytes tile header columns room n after new
unfolding encode_of tokens_read
pass_done bytes tile header columns room {cols} {after} {room1} {new} {x} {f} {w} {n} y a b g o e m M end l p =
    let c : Call = call_of bytes tile header in
    let fine : refusal_of c (sizes_of m) ≡ 0 = whole_fine c m p in
    let P : Picture = cut_out packed bytes tile f x in
    let S : State = start_of bytes tile (blank_of m) in
    let N : ℕ = blocks_of tile.width tile.height in
    let found : P ≡ pictured_of c = picture_found c m fine g b refl in
    let sound : Sound P = record { shared = shared_found c m fine g b refl; first = part_bytes bytes tile.first y; tokens = λ q h. part_bytes bytes (span_at_of tile q) y } in
    let live : Live P S = live_found c m fine g b refl y in
    let F : Encoder = write_all fresh (tokens_from N P 0 S) in
    let few = tokens_few sound N 0 S live (omega arith) in
    let side = fine_side c (sizes_of m) fine in
    let most = blocks_most tile.width tile.height side.width.most side.height.most in
    let small : length F.out < 9223372036854775808 = omega (arith, write_few (tokens_from N P 0 S) few.bytes, few.most, most) in
    let v : Walked F end room w after room1 = o (blank_of m) M end F (ap (λ (k : ℕ). replicate k 0) l ∙ sym a)
    (record { sound = sound; live = live; whole = run_found c m fine g b refl refl ∙ p; paid = refl; small = small }) in
    let z : Finished F room (ended_of n new) = kept_flush v.kept v.ready small e in
    let s : flush_of F ≡ one_partition c m = ap (λ (Q : Picture). flush_of (write_all fresh (tokens_from N Q 0 S))) found in
    record {
      columns = v.columns';
      long = z.long ∙ ap length s;
      size = z.size;
      same = λ h. z.same (subst (λ (k : List ℕ). length k ≤ length room) (sym s) h) ∙ (λ i. s i ++ drop (length (s i)) room);
    }

-- of a header that is not fine: no picture call answers 0 then
module _ (bytes : List ℕ) (tile : Tile) (header : List ℤ) (columns room : List ℕ) {n : ℕ} {after new : List ℕ} where
  pub pass_no_table : {x : Option (List ℕ)} → x ≡ table_of header → x ≡ None → Passes bytes tile header columns room n after new
  pass_no_table a e m M end l p =
      let c : Call = call_of bytes tile header in
      absurd (table_not header a e (fine_lengths c (sizes_of m) (whole_fine c m p)).header)

  pub pass_no_frame : {f : Option Frame} → f ≡ framed_of header → f ≡ None → Passes bytes tile header columns room n after new
  pass_no_frame a e m M end l p =
      let c : Call = call_of bytes tile header in
      let g = frame_good header (fine_header c (sizes_of m) (whole_fine c m p)) in
      absurd (let z : ◌≡◌ {A = ℕ} 0 1 = cc in omega arith)

pub pass_measures : (bytes : List ℕ) (tile : Tile) (header : List ℤ) (columns room : List ℕ) {n : ℕ} {after new : List ℕ} → Passes bytes tile header columns room n after new → Measures bytes tile header columns n after
pass_measures bytes tile header columns room p m M end l e = let z = p m M end l e in (z.columns, z.long)

-- ---- the room
module _ (c : Call) (m end : Memory) (out : List ℕ) where
  into_short : length out < length (one_partition c m) → tokens_ended (record { number = 16; len = 0 }) end out ≡ tokens_into c m end out
  unfolding tokens_into
  into_short h = rw (lt-leb (length (one_partition c m)) (length out) h, tokens_into)

  into_fits : length (one_partition c m) ≤ length out → {n : ℕ} {new : List ℕ} → n ≡ length (one_partition c m) → new ≡ one_partition c m ++ drop (length (one_partition c m)) out
      → tokens_ended (record { number = 0; len = n }) end new ≡ tokens_into c m end out
  unfolding tokens_into
  into_fits h e f = rw (le-leb (length (one_partition c m)) (length out) h, tokens_into) (λ i. tokens_ended (record { number = 0; len = e i }) end (f i))

-- a partition is four bytes and at most one a symbol
pub partition_most : (c : Call) (m : Memory) {M : ℕ} {end : Memory} → Bytes c.bytes → picture_of c m ≡ record { answer = Ok M; mem = end } → (4 ≤ length (one_partition c m)) × (length (one_partition c m) ≤ length (tokens_read c m) + 4)
unfolding tokens_read
partition_most c m y w =
    let e : refusal_of c (sizes_of m) ≡ 0 = whole_fine c m w in
    let N : ℕ = blocks_of c.tile.width c.tile.height in
    let P : Picture = pictured_of c in
    let few = tokens_few (sound_start c m e y) N 0 (begun_of c m) (live_start c m e y) (omega arith) in
    let long = encode_long (tokens_from N P 0 (begun_of c m)) few.bytes in
    (omega (arith, long), omega (arith, write_few (tokens_from N P 0 (begun_of c m)) few.bytes, long))

module _ (bytes : List ℕ) (tile : Tile) (header : List ℤ) (most : ℕ) (columns out : List ℕ) where
  pub writes_ample : Bytes bytes → most + 4 ≤ length out → {n : ℕ} {after new : List ℕ} → Passes bytes tile header columns out n after new → Writes bytes tile header most columns out (record { number = 0; len = n }) after new
  writes_ample y h p m M end l w v =
      let c : Call = call_of bytes tile header in
      let z = p m M end l w in
      let f : length (one_partition c m) ≤ length out = omega (arith, (partition_most c m y w).1) in
      (z.columns, into_fits c m end out f z.long (z.same f))

  module _ {after : List ℕ} {k : ℕ} (p : Measures bytes tile header columns k after) where
    pub writes_none : length out < k → Writes bytes tile header most columns out (record { number = 16; len = 0 }) after out
    writes_none h m M end l w v =
        let z = p m M end l w in
        (z.0, into_short (call_of bytes tile header) m end out (omega (arith, z.1)))

    pub writes_all : k ≤ length out → length after ≡ length columns → {n : ℕ} {last new : List ℕ} → Passes bytes tile header after out n last new → Writes bytes tile header most columns out (record { number = 0; len = n }) last new
    writes_all h s q m M end l w v =
        let c : Call = call_of bytes tile header in
        let z = q m M end (l ∙ sym s) w in
        let f : length (one_partition c m) ≤ length out = omega (arith, (p m M end l w).1) in
        (z.columns, into_fits c m end out f z.long (z.same f))

-- ---- the call on the tokens
module _ (c : Call) (m : Memory) (out : List ℕ) {q : Decoded} {mem : Memory} (e : record { answer = q; mem = mem } ≡ picture_of c m) {n : ℕ} (f : n ≡ number_of q) where
  told : n ≡ number_of (picture_of c m).answer
  told = f ∙ ap (λ (x : Ended). number_of x.answer) e

  pub tokens_refused : (n ≡ 0 → ⊥) → tokens_ended (record { number = n; len = 0 }) mem out ≡ tokens_of c m out
  unfolding tokens_of
  tokens_refused h = go n told h
    where
      go : (k : ℕ) → k ≡ number_of (picture_of c m).answer → (k ≡ 0 → ⊥) → tokens_ended (record { number = k; len = 0 }) mem out ≡ tokens_of c m out
      go zero g h = absurd (h refl)
      go (suc k) g h = rw (← g, tokens_of) (λ i. tokens_ended (record { number = suc k; len = 0 }) (e i).mem out)

  pub tokens_whole : n ≡ 0 → IsWhole (picture_of c m)
  tokens_whole h = picture_whole c m (sym told ∙ h)

  tokens_done : n ≡ 0 → {x : TokensEnded} → x ≡ tokens_into c m (picture_of c m).mem out → x ≡ tokens_of c m out
  unfolding tokens_of
  tokens_done h g = let z : number_of (picture_of c m).answer ≡ 0 = sym told ∙ h in rw (z, tokens_of) g

  pub tokens_small : n ≡ 0 → Small c.tile
  tokens_small h =
      let w = tokens_whole h in
      let g = whole_fine c m w.same in
      let s = fine_side c (sizes_of m) g in
      record { width = s.width.most; height = s.height.most; count = (fine_count c (sizes_of m) g).most }

  -- the tokens rewritten, the other memory as the picture call left it
  pub tokens_rewritten : c.form ≡ packed → n ≡ 0 → {reads : SymbolCounts} → reads ≡ cost_of c m → length mem.columns ≡ length m.columns → {x : TokensRecoded} {after new : List ℕ} → Writes c.bytes c.tile c.header reads.tokens mem.columns out x after new
      → tokens_ended x (memory_of mem.y mem.u mem.v after mem.modes mem.strengths) new ≡ tokens_of c m out
  unfolding tokens_read
  tokens_rewritten p h {reads} r l {x} {after} {new} w =
      let z = tokens_whole h in
      let counted : reads.tokens ≡ length (tokens_read c m) =
      ap (λ (y : SymbolCounts). y.tokens) (r ∙ cost_good c m (sym (whole_fine c m z.same)) refl) ∙ tokens_count_lem (blocks_of c.tile.width c.tile.height) (pictured_of c) 0 (begun_of c m) in
      let same : call_of c.bytes c.tile c.header ≡ c = λ i. call_in (sym p i) c in
      let k : mem ≡ (picture_of c m).mem = ap (λ (y : Ended). y.mem) e in
      let v = w m z.count (picture_of c m).mem (sym l) (ap (λ (t : Call). picture_of t m) same ∙ z.same) (omega (arith, counted, ap (λ (t : Call). length (tokens_read t m)) same)) in
      let o : memory_of mem.y mem.u mem.v after mem.modes mem.strengths ≡ (picture_of c m).mem = (λ i. memory_of mem.y mem.u mem.v ((v.0 ∙ ap (λ (y : Memory). y.columns) (sym k)) i) mem.modes mem.strengths) ∙ k in
      ap (λ (y : Memory). tokens_ended x y new) o ∙ tokens_done h (v.1 ∙ ap (λ (t : Call). tokens_into t m (picture_of c m).mem out) same)

-- ---- what the two calls leave, by the picture call's number and the room
module _ (c : Call) (m : Memory) (out : List ℕ) where
  abbrev number : ℕ
  number = number_of (picture_of c m).answer

  abbrev left : Memory
  left = (picture_of c m).mem

  tokens_told : (number ≡ 0 → ⊥) → tokens_of c m out ≡ tokens_ended (record { number = number; len = 0 }) left out
  tokens_told h = sym (tokens_refused c m out refl refl h)

  tokens_fits : number ≡ 0 → length (one_partition c m) ≤ length out → tokens_of c m out ≡ tokens_ended (record { number = 0; len = length (one_partition c m) }) left (one_partition c m ++ drop (length (one_partition c m)) out)
  tokens_fits h f = sym (tokens_done c m out refl refl h (into_fits c m left out f refl refl))

  tokens_full : number ≡ 0 → length out < length (one_partition c m) → tokens_of c m out ≡ tokens_ended (record { number = 16; len = 0 }) left out
  tokens_full h f = sym (tokens_done c m out refl refl h (into_short c m left out f))

  long : length (recoded_bytes c m) ≡ length (first_of c) + length (one_partition c m)
  long = length-append (first_of c) (one_partition c m)

  recode_told : (number ≡ 0 → ⊥) → recode_of c m out ≡ recode_ended (recoded_refused number) left out
  unfolding recode_of
  recode_told h = go number refl h
    where
      go : (k : ℕ) → number ≡ k → (k ≡ 0 → ⊥) → recode_of c m out ≡ recode_ended (recoded_refused k) left out
      go zero g h = absurd (h refl)
      go (suc k) g h = rw (g, recode_of)

  recode_fits : number ≡ 0 → length (first_of c) + length (one_partition c m) ≤ length out → recode_of c m out ≡ recode_ended (recoded_done (recoded_tile c m)) left (first_of c ++ (one_partition c m ++ drop (length (first_of c) + length (one_partition c m)) out))
  unfolding recode_of recoded_into
  recode_fits h f =
      rw (h, recode_of, le-leb (length (recoded_bytes c m)) (length out) (omega (arith, long)), recoded_into)
      (λ i. recode_ended (recoded_done (recoded_tile c m)) left ((append_assoc (first_of c) (one_partition c m) (drop (length (recoded_bytes c m)) out) ∙ ap (λ (k : ℕ). first_of c ++ (one_partition c m ++ drop k out)) long) i))

  recode_full : number ≡ 0 → length out < length (first_of c) + length (one_partition c m) → recode_of c m out ≡ recode_ended (recoded_refused 16) left out
  unfolding recode_of recoded_into
  recode_full h f = rw (h, recode_of, lt-leb (length (recoded_bytes c m)) (length out) (omega (arith, long)), recoded_into)

-- ---- tokens that stand in the room from `at` on: the picture is refused, the room too small, or all of them are there
pub data TokensAt (c : Call) (m : Memory) (out : List ℕ) (at : ℕ) : TokensEnded → Type 0 where
  refused : (number_of (picture_of c m).answer ≡ 0 → ⊥) → TokensAt c m out at (tokens_ended (record { number = number_of (picture_of c m).answer; len = 0 }) (picture_of c m).mem out)
  full : number_of (picture_of c m).answer ≡ 0 → length out < at + length (one_partition c m) → TokensAt c m out at (tokens_ended (record { number = 16; len = 0 }) (picture_of c m).mem out)
  there : number_of (picture_of c m).answer ≡ 0 → at + length (one_partition c m) ≤ length out
      → TokensAt c m out at (tokens_ended (record { number = 0; len = length (one_partition c m) }) (picture_of c m).mem (take at out ++ (one_partition c m ++ drop (at + length (one_partition c m)) out)))

-- a call whose tokens do
module _ (c : Call) (m : Memory) (out : List ℕ) (at : ℕ) (inside : at ≤ length out) {q : TokensRecoded} {mem : Memory} {part new : List ℕ} (e : tokens_ended q mem part ≡ tokens_of c m (take (length out - at) (drop at out)))
    (g : new ≡ take at out ++ (part ++ drop (length out - at) (drop at out))) where
  cut : take (length out - at) (drop at out) ≡ drop at out
  cut = take_all (length out - at) (drop at out) (rw length-drop (omega arith))

  here : tokens_ended q mem part ≡ tokens_of c m (drop at out)
  here = e ∙ ap (tokens_of c m) cut

  new_is : new ≡ take at out ++ part
  new_is = g ∙ ap (λ (x : List ℕ). take at out ++ (part ++ x)) (drop_of_length-le (drop at out) {i = length out - at} (rw length-drop (omega arith))) ∙ ap (λ (x : List ℕ). take at out ++ x) (append-nil part)

  pub tokens_at : TokensAt c m out at (tokens_ended q mem new)
  tokens_at =
      ⊎_elim
      (λ (w : number_of (picture_of c m).answer ≡ 0).
      ⊎_elim
      (λ (l : length (drop at out) < length (one_partition c m)). so (tokens_full c m (drop at out) w l) (take-append-drop at out) (full w (omega (arith, l, dropped at out))))
      (λ (l : length (one_partition c m) ≤ length (drop at out)).
      so (tokens_fits c m (drop at out) w l) (ap (λ (x : List ℕ). take at out ++ (one_partition c m ++ x)) (drop-drop (length (one_partition c m)) at out)) (there w (omega (arith, l, dropped at out))))
      (lt_or (length (drop at out)) (length (one_partition c m))))
      (λ (w : number_of (picture_of c m).answer ≡ 0 → ⊥). so (tokens_told c m (drop at out) w) (take-append-drop at out) (refused w))
      (eq_or (number_of (picture_of c m).answer) 0)
    where
      so : {x : TokensEnded} {z : List ℕ} → tokens_of c m (drop at out) ≡ x → take at out ++ x.out ≡ z → TokensAt c m out at (tokens_ended x.answer x.mem z) → TokensAt c m out at (tokens_ended q mem new)
      so a b t = let d = here ∙ a in let f = new_is ∙ (λ i. take at out ++ (d i).out) ∙ b in subst (TokensAt c m out at) (λ i. tokens_ended (sym d i).answer (sym d i).mem (sym f i)) t

  pub recode_refused : at ≤ length (first_of c) → (q.number ≡ 0 → ⊥) → {x : Recoded} → x ≡ recoded_refused q.number → recode_ended x mem new ≡ recode_of c m out
  recode_refused h k f = ap (λ (x : Recoded). recode_ended x mem new) f ∙ go tokens_at k
    where
      go : {y : TokensEnded} → TokensAt c m out at y → (y.answer.number ≡ 0 → ⊥) → recode_ended (recoded_refused y.answer.number) y.mem y.out ≡ recode_of c m out
      go (refused w) k = sym (recode_told c m out w)
      go (full w l) k = sym (recode_full c m out w (omega (arith, l, h)))
      go (there w l) k = absurd (k refl)

  -- all of it was: then the first partition fits before it
  pub record Fits (y : TokensEnded) : Type 0 where
    pub whole : number_of (picture_of c m).answer ≡ 0
    pub fits : at + length (one_partition c m) ≤ length out
    pub first : at ≡ length (first_of c)
    pub is : y ≡ tokens_ended (record { number = 0; len = length (one_partition c m) }) (picture_of c m).mem (take at out ++ (one_partition c m ++ drop (at + length (one_partition c m)) out))

  pub recode_fitted : Bytes c.bytes → (at < length out → at ≡ length (first_of c)) → q.number ≡ 0 → Fits (tokens_ended q mem new)
  recode_fitted y h k = go tokens_at k
    where
      go : {y : TokensEnded} → TokensAt c m out at y → y.answer.number ≡ 0 → Fits y
      go (refused w) k = absurd (w k)
      go (full w l) k = absurd (let z : 16 ≡ 0 = k in omega arith)
      go (there w l) k = record { whole = w; fits = l; first = h (omega (arith, l, (partition_most c m y (picture_whole c m w).same).0)); is = refl }

  pub recode_laid : Fits (tokens_ended q mem new) → {first last : List ℕ} {t : Tile} → first ≡ first_of c → last ≡ take (length first) first ++ drop (length first) new → t ≡ one_tile_of c.tile (length first) q.len → recode_ended (recoded_done t) mem last ≡ recode_of c m out
  recode_laid z {first} {last} {t} a b d =
      let n : ℕ = length (first_of c) in
      let k : ℕ = length (one_partition c m) in
      let f : length first ≡ n = ap length a in
      let u : length (take at out) ≡ at = length-take-le at out inside in
      let s : drop n new ≡ one_partition c m ++ drop (n + k) out =
      (λ i. drop (sym (u ∙ z.first) i) (z.is i).out) ∙ drop-append_seam (take at out) (one_partition c m ++ drop (at + k) out) ∙ ap (λ (i : ℕ). one_partition c m ++ drop (i + k) out) z.first in
      let v : last ≡ first_of c ++ (one_partition c m ++ drop (n + k) out) = b ∙ (λ i. take_all (length first) first (omega arith) i ++ drop (length first) new) ∙ (λ i. a i ++ drop (f i) new) ∙ ap (λ (x : List ℕ). first_of c ++ x) s in
      let w : t ≡ recoded_tile c m = d ∙ (λ i. one_tile_of c.tile (f i) (z.is i).answer.len) in
      (λ i. recode_ended (recoded_done (w i)) (z.is i).mem (v i)) ∙ sym (recode_fits c m out z.whole (omega (arith, z.fits, z.first)))
