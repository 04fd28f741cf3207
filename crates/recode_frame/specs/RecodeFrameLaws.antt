-- The call on a whole frame: its first partition measured, placed and laid before the tokens, and its refusals.
use Rattle.std.specs.Prelude.{◌+◌, ◌-◌, ◌*◌, ◌/◌, ◌%◌, ◌≤◌, ◌<◌, ◌≡◌, ◌∷◌, ◌++◌}
use Rattle.numbers.specs.Words.{ℕ, zero, suc, mod-lt, arith, refl, sym, ◌∙◌, ap, subst, ⊎_elim, lit<, lt_or, le-leb, lt-leb, List, [], append_assoc, append-nil, length, get_or, set, take, drop, drop_of_length-le, length-append, length-drop, length-take, drop-append-le, drop-append_seam, drop-drop, length-take-le, take_all, take-append_seam, ℤ}
use Rattle.reader.specs.ReadingLaws.{Bytes}
use Rattle.lent.specs.Memory.{Memory}
use Rattle.tile.specs.declared.Tile.{Tile}
use Rattle.tile.specs.Tile.{contents_of}
use Rattle.choices.specs.Choices.{Call, call_of, number_of}
use Rattle.picture.specs.Picture.{picture_of}
use Rattle.recode.specs.declared.tokens.TokensRecoded.{TokensRecoded}
use Rattle.recode.specs.Recode.{one_partition, tokens_of, TokensEnded, tokens_ended}
use Rattle.recode.specs.PassLaws.{picture_whole, picture_below, partition_most, TokensAt, refused, full, there, tokens_at}
use Rattle.frame.specs.declared.take.Taken.{Taken}
use Rattle.frame.specs.Tag.{three_at, tag_of}
use Rattle.frame.specs.Take.{taken_of}
use Rattle.frame.specs.PassesLaws.{taken_is_fine, taken_read}
use Rattle.recode_frame.specs.declared.FrameRecoded.{FrameRecoded}
use Rattle.recode_frame.specs.RecodeFrame.{new_first, three_bytes, new_head, taken_call, recoded_frame, no_frame, frame_refused, frame_into, frame_decoded, recode_frame_of, FrameEnded, frame_ended}
use Rattle.recode_frame.specs.FirstLaws.{Sized, FirstWritten, Rewrites}
use Rattle.recode_frame.specs.MovedLaws.{call_modes}
use Rattle.recode_frame.specs.FrameLaws.{head_long, whole_long}
pub use Rattle.recode_frame.specs.First.{IsTaken, FirstRead, Measured, Lays, Placed, Numbered}

-- ---- a frame that is taken
pub is_taken : {b : List ℕ} {x : Taken} → x ≡ taken_of b → x.answer.number ≡ 0 → IsTaken b x.answer.tile x.header
is_taken e z = record { number = ap (λ (x : Taken). x.answer.number) (sym e) ∙ z; tile = ap (λ (x : Taken). x.answer.tile) e; header = ap (λ (x : Taken). x.header) e }

module _ {b : List ℕ} {t : Tile} {h : List ℤ} (k : IsTaken b t h) where
  call_is : call_of b t h ≡ taken_call b
  call_is = λ i. call_of b (k.tile i) (k.header i)

  pub taken_sized : Bytes b → Sized t
  taken_sized y = let s = (taken_is_fine b y k.number).sides in subst Sized (sym k.tile) (record { wide = s.width.least; width = s.width.most; height = s.height.most })

  pub taken_ten : 10 ≤ length b
  taken_ten = (taken_read b k.number).long

-- such is that of a picture that is answered 0
first_read : (b : List ℕ) (m : Memory) → Bytes b → (taken_of b).answer.number ≡ 0 → number_of (picture_of (taken_call b) m).answer ≡ 0 → FirstRead (taken_call b)
first_read b m y z w =
    let c : Call = taken_call b in
    let t = taken_read b z in
    let a = call_modes c m y w in
    record { coded = t.coded; last = a.last; head = t.gives; modes = a.gives }

-- ---- its first partition written again
module _ (b : List ℕ) (t : Tile) (h : List ℤ) where
  first_written : {s room new : List ℕ} {n : ℕ} → s ≡ contents_of b t.first → Rewrites s t h room n new → FirstRead (call_of b t h) → FirstWritten (new_first (call_of b t h)) room n new
  unfolding new_first
  first_written {s} {room} {new} {n} e w r = subst (λ (x : List ℕ). Rewrites x t h room n new) e w r.coded r.last r.head r.modes

  pub measured : {s room new : List ℕ} {n : ℕ} → s ≡ contents_of b t.first → Rewrites s t h room n new → Measured b t h n
  measured e w r = (first_written e w r).long

-- ---- the ten bytes, as the code puts them: those of the old frame, and the tag over the first three
put_three : (l : List ℕ) (x y z : ℕ) → 3 ≤ length l → set (set (set l 0 x) 1 y) 2 z ≡ (x ∷ y ∷ z ∷ []) ++ drop 3 l
put_three [] x y z h = absurd (omega arith)
put_three (a ∷ []) x y z h = absurd (omega arith)
put_three (a ∷ c ∷ []) x y z h = absurd (omega arith)
put_three (a ∷ c ∷ d ∷ l) x y z h = refl

-- a number's three bytes, where its lowest five bits are r and the others n
module _ (r n : ℕ) (h : r < 32) where
  byte_low : r + n % 8 * 32 ≡ (r + 32 * n) % 256
  byte_low = let q : (r + 32 * n) / 256 ≡ n / 8 = omega arith in omega (arith, q)

  byte_middle : n / 8 % 256 ≡ (r + 32 * n) / 256 % 256
  byte_middle = ap (λ (x : ℕ). x % 256) {x = n / 8} {y = (r + 32 * n) / 256} (omega arith)

  byte_high : n / 2048 % 256 ≡ (r + 32 * n) / 65536 % 256
  byte_high = ap (λ (x : ℕ). x % 256) {x = n / 2048} {y = (r + 32 * n) / 65536} (omega arith)

tag_low : (b : List ℕ) → get_or b 0 0 % 32 ≡ tag_of b % 32
unfolding three_at
tag_low b = omega arith

pub tag_put : (b out : List ℕ) (n : ℕ) {x y z : ℕ} → 3 ≤ length out → x ≡ get_or b 0 0 % 32 + n % 8 * 32 → y ≡ n / 8 % 256 → z ≡ n / 2048 % 256 → set (set (set out 0 x) 1 y) 2 z ≡ three_bytes (tag_of b % 32 + 32 * n) ++ drop 3 out
tag_put b out n {x} {y} {z} h e f g =
    let r : ℕ = tag_of b % 32 in
    let l : r < 32 = mod-lt (tag_of b) {m = 32} (lit< tt) in
    put_three out x y z h ∙ (λ i. ((e ∙ ap (λ (k : ℕ). k + n % 8 * 32) (tag_low b) ∙ byte_low r n l) i ∷ (f ∙ byte_middle r n l) i ∷ (g ∙ byte_high r n l) i ∷ []) ++ drop 3 out)

past_three : (l : List ℕ) → drop 3 (take 10 l) ≡ take 7 (drop 3 l)
past_three [] = refl
past_three (a ∷ []) = refl
past_three (a ∷ c ∷ []) = refl
past_three (a ∷ c ∷ d ∷ l) = refl

pub head_fits : (b : List ℕ) {n : ℕ} → 10 ≤ n → {src : List ℕ} → src ≡ contents_of b (record { start = 0; len = 10 }) → length src ≤ n
unfolding contents_of
head_fits b h e = rw e (rw length-take (omega arith))

module _ (b : List ℕ) (n : ℕ) (out : List ℕ) (ten : 10 ≤ length b) {src o1 o2 : List ℕ} (e : src ≡ contents_of b (record { start = 0; len = 10 })) (f : o1 ≡ take (length src) src ++ drop (length src) out) (g : o2 ≡ three_bytes (tag_of b % 32 + 32 * n) ++ drop 3 o1) where
  head_put : o2 ≡ new_head b n ++ drop 10 out
  unfolding contents_of
  head_put =
      let l : length (take 10 b) ≡ 10 = length-take-le 10 b ten in
      let i : o1 ≡ take 10 b ++ drop 10 out = f ∙ (λ j. take_all (length src) src (omega arith) j ++ drop (length src) out) ∙ (λ j. e j ++ drop ((ap length e ∙ l) j) out) in
      g ∙ ap (λ (x : List ℕ). three_bytes (tag_of b % 32 + 32 * n) ++ x) (ap (drop 3) i ∙ drop-append-le 3 (take 10 b) (drop 10 out) (omega (arith, l)) ∙ ap (λ (x : List ℕ). x ++ drop 10 out) (past_three b))

  pub lay_done : (t : Tile) (h : List ℤ) → 10 + n ≤ length out → {part new o3 : List ℕ} {k : ℕ} → part ≡ contents_of b t.first → Rewrites part t h (take (10 + n - 10) (drop 10 o2)) k new → o3 ≡ take 10 o2 ++ (new ++ drop (10 + n - 10) (drop 10 o2)) → Lays b t h out n o3
  lay_done t h fits {part} {new} {o3} {k} p w q r s =
      let F : List ℕ = new_first (call_of b t h) in
      let room : List ℕ = take n (drop 10 out) in
      let m : 10 + n - 10 ≡ n = omega arith in
      let l : length (new_head b n) ≡ 10 = head_long b n [] ten in
      let before : take 10 o2 ≡ new_head b n = (λ i. take (sym l i) (head_put i)) ∙ take-append_seam (new_head b n) (drop 10 out) in
      let behind : drop 10 o2 ≡ drop 10 out = (λ i. drop (sym l i) (head_put i)) ∙ drop-append_seam (new_head b n) (drop 10 out) in
      let z : FirstWritten F room k new = first_written b t h p (subst (λ (x : List ℕ). Rewrites part t h x k new) (λ i. take (m i) (behind i)) w) r in
      let size : length room ≡ n = length-take-le n (drop 10 out) (rw length-drop (omega arith)) in
      let is : new ≡ F = z.same (omega (arith, size, s)) ∙ ap (λ (x : List ℕ). F ++ x) (drop_of_length-le room {i = length F} (omega (arith, size, s))) ∙ append-nil F in
      q ∙ (λ i. before i ++ (is i ++ (ap (λ (x : ℕ). drop x (drop 10 o2)) m ∙ ap (drop n) behind ∙ drop-drop n 10 out) i))

-- ---- where the tokens stand, and the number
pub placed_end : {n room : ℕ} → (n ≤ 524287 → room ≤ 10 + n) → Placed n room room
placed_end h = record { inside = omega arith; place = λ l. absurd (omega arith); told = λ l. absurd (omega arith); most = h }

pub placed_here : {n room : ℕ} → n ≤ 524287 → 10 + n ≤ room → Placed n room (10 + n)
placed_here h l = record { inside = l; place = λ k. refl; told = λ k. h; most = λ k. omega arith }

-- ---- what the call leaves, by the picture call's number, the first partition's length and the room
module _ (b : List ℕ) (m : Memory) (out : List ℕ) where
  abbrev number : ℕ
  number = number_of (picture_of (taken_call b) m).answer

  abbrev left : Memory
  left = (picture_of (taken_call b) m).mem

  abbrev first : List ℕ
  first = new_first (taken_call b)

  abbrev tokens : List ℕ
  tokens = one_partition (taken_call b) m

  pub decoded_told : (number ≡ 0 → ⊥) → frame_decoded b m out ≡ frame_refused number left out
  unfolding frame_decoded
  decoded_told h = go number refl h
    where
      go : (k : ℕ) → number ≡ k → (k ≡ 0 → ⊥) → frame_decoded b m out ≡ frame_refused k left out
      go zero g h = absurd (h refl)
      go (suc k) g h = rw (g, frame_decoded)

  module _ (w : number ≡ 0) where
    decoded_into : frame_decoded b m out ≡ frame_into b m left out
    unfolding frame_decoded
    decoded_into = rw (w, frame_decoded)

    pub decoded_long : 524287 < length first → frame_decoded b m out ≡ frame_refused 18 left out
    unfolding frame_into
    decoded_long l = decoded_into ∙ rw (lt-leb (length first) 524287 l, frame_into)

    module _ (ten : 10 ≤ length b) (l : length first ≤ 524287) where
      long : length (recoded_frame b m) ≡ 10 + length first + length tokens
      long = whole_long b first tokens ten

      pub decoded_full : length out < 10 + length first + length tokens → frame_decoded b m out ≡ frame_refused 16 left out
      unfolding frame_into
      decoded_full k = decoded_into ∙ rw (le-leb (length first) 524287 l, lt-leb (length (recoded_frame b m)) (length out) (omega (arith, long)), frame_into)

      pub decoded_written : length (recoded_frame b m) ≤ length out → frame_decoded b m out ≡ frame_ended (record { number = 0; len = length (recoded_frame b m) }) left (recoded_frame b m ++ drop (length (recoded_frame b m)) out)
      unfolding frame_into
      decoded_written k = decoded_into ∙ rw (le-leb (length first) 524287 l, le-leb (length (recoded_frame b m)) (length out) k, frame_into)

      pub decoded_fits : 10 + length first + length tokens ≤ length out → frame_decoded b m out
          ≡ frame_ended (record { number = 0; len = 10 + length first + length tokens }) left (new_head b (length first) ++ (first ++ (tokens ++ drop (10 + length first + length tokens) out)))
      decoded_fits k = decoded_written (omega (arith, long)) ∙ (λ i. frame_ended (record { number = 0; len = long i }) left (joined (long i) i))
        where
          joined : (k : ℕ) → recoded_frame b m ++ drop k out ≡ new_head b (length first) ++ (first ++ (tokens ++ drop k out))
          joined k = append_assoc (new_head b (length first)) (first ++ tokens) (drop k out) ∙ ap (λ (x : List ℕ). new_head b (length first) ++ x) (append_assoc first tokens (drop k out))

-- ---- the call on a frame that is taken, whose tokens stand in the room from `at` on
module _ {b : List ℕ} {t : Tile} {h : List ℤ} (k : IsTaken b t h) (y : Bytes b) (m : Memory) (out : List ℕ) {n : ℕ} (p : Measured b t h n) {at : ℕ} (o : Placed n (length out) at) {q : TokensRecoded} {mem : Memory} {part new : List ℕ}
    (e : tokens_ended q mem part ≡ tokens_of (call_of b t h) m (take (length out - at) (drop at out))) (g : new ≡ take at out ++ (part ++ drop (length out - at) (drop at out))) where
  abbrev At : TokensEnded → Type 0
  At = TokensAt (taken_call b) m out at

  here : At (tokens_ended q mem new)
  here = subst (λ (c : Call). TokensAt c m out at (tokens_ended q mem new)) (call_is k) (tokens_at (call_of b t h) m out at o.inside e g)

  reads : number b m out ≡ 0 → FirstRead (taken_call b)
  reads w = first_read b m y k.number w

  size : number b m out ≡ 0 → n ≡ length (first b m out)
  size w = subst (λ (c : Call). FirstRead c → n ≡ length (new_first c)) (call_is k) p (reads w)

  pub frame_refused_lem : (q.number ≡ 0 → ⊥) → {r : ℕ} {x : FrameRecoded} → Numbered q.number n r → x ≡ no_frame r → frame_ended x mem new ≡ frame_decoded b m out
  frame_refused_lem a z f = ap (λ (x : FrameRecoded). frame_ended x mem new) f ∙ go here a z
    where
      go : {x : TokensEnded} → At x → (x.answer.number ≡ 0 → ⊥) → {r : ℕ} → Numbered x.answer.number n r → frame_refused r x.mem x.out ≡ frame_decoded b m out
      go (refused w) a z = ap (λ (r : ℕ). frame_refused r (left b m out) out) (z.other (λ s. omega (arith, picture_below (taken_call b) m, s))) ∙ sym (decoded_told b m out w)
      go (full w l) a z =
          ⊎_elim
          (λ (s : 524287 < n). ap (λ (r : ℕ). frame_refused r (left b m out) out) (z.long refl s) ∙ sym (decoded_long b m out w (omega (arith, s, size w))))
          (λ (s : n ≤ 524287). ap (λ (r : ℕ). frame_refused r (left b m out) out) (z.room refl s) ∙ sym (decoded_full b m out w (taken_ten k) (omega (arith, s, size w)) (omega (arith, l, o.most s, size w))))
          (lt_or 524287 n)
      go (there w l) a z = absurd (a refl)

  -- all of them are there: then so is the first partition's place
  record FrameFits (x : TokensEnded) : Type 0 where
    whole : number b m out ≡ 0
    fits : at + length (tokens b m out) ≤ length out
    place : at ≡ 10 + n
    told : n ≤ 524287
    is : x ≡ tokens_ended (record { number = 0; len = length (tokens b m out) }) (left b m out) (take at out ++ (tokens b m out ++ drop (at + length (tokens b m out)) out))

  fitted : q.number ≡ 0 → FrameFits (tokens_ended q mem new)
  fitted z = go here z
    where
      go : {x : TokensEnded} → At x → x.answer.number ≡ 0 → FrameFits x
      go (refused w) z = absurd (w z)
      go (full w l) z = absurd (let i : 16 ≡ 0 = z in omega arith)
      go (there w l) z =
          let i : at < length out = omega (arith, l, (partition_most (taken_call b) m y (picture_whole (taken_call b) m w).same).0) in
          record { whole = w; fits = l; place = o.place i; told = o.told i; is = refl }

  pub frame_room : q.number ≡ 0 → (10 + n ≤ length new) × (at + q.len ≤ length out)
  frame_room a =
      let z = fitted a in
      let T : List ℕ = tokens b m out in
      let i : q.len ≡ length T = ap (λ (x : TokensEnded). x.answer.len) z.is in
      let j : length new ≡ length (take at out ++ (T ++ drop (at + length T) out)) = ap (λ (x : TokensEnded). length x.out) z.is in
      (omega (arith, z.place, j, length-append (take at out) (T ++ drop (at + length T) out), length-take-le at out o.inside), omega (arith, z.fits, i))

  pub frame_laid : q.number ≡ 0 → {last : List ℕ} → Lays b t h new n last → frame_ended (record { number = 0; len = at + q.len }) mem last ≡ frame_decoded b m out
  frame_laid f {last} d =
      let z = fitted f in
      let F : List ℕ = first b m out in
      let T : List ℕ = tokens b m out in
      let s : n ≡ length F = size z.whole in
      let u : length (take at out) ≡ 10 + n = length-take-le at out o.inside ∙ z.place in
      let v : drop (10 + n) new ≡ T ++ drop (at + length T) out = (λ i. drop (sym u i) (z.is i).out) ∙ drop-append_seam (take at out) (T ++ drop (at + length T) out) in
      let a : last ≡ new_head b n ++ (F ++ drop (10 + n) new) = subst (λ (c : Call). FirstRead c → n ≡ length (new_first c) → last ≡ new_head b n ++ (new_first c ++ drop (10 + n) new)) (call_is k) d (reads z.whole) s in
      let j : at ≡ 10 + length F = z.place ∙ ap (λ (x : ℕ). 10 + x) s in
      (λ i. frame_ended (record { number = 0; len = at + (z.is i).answer.len }) (z.is i).mem ((a ∙ ap (λ (x : List ℕ). new_head b n ++ (F ++ x)) v) i))
      ∙ (λ i. frame_ended (record { number = 0; len = j i + length T }) (left b m out) (new_head b (s i) ++ (F ++ (T ++ drop (j i + length T) out))))
      ∙ sym (decoded_fits b m out z.whole (taken_ten k) (omega (arith, z.told, s)) (omega (arith, z.fits, j)))

-- ---- the call
module _ (b : List ℕ) (m : Memory) (out : List ℕ) {t : Taken} (e : t ≡ taken_of b) where
  pub frame_untaken : (t.answer.number ≡ 0 → ⊥) → {x : FrameRecoded} → x ≡ no_frame t.answer.number → frame_ended x m out ≡ recode_frame_of b m out
  unfolding recode_frame_of
  frame_untaken h f = ap (λ (x : FrameRecoded). frame_ended x m out) f ∙ go t.answer.number (ap (λ (x : Taken). x.answer.number) e) h
    where
      go : (k : ℕ) → k ≡ (taken_of b).answer.number → (k ≡ 0 → ⊥) → frame_refused k m out ≡ recode_frame_of b m out
      go zero g h = absurd (h refl)
      go (suc k) g h = rw (← g, recode_frame_of)

  pub frame_taken_lem : t.answer.number ≡ 0 → {x : FrameEnded} → x ≡ frame_decoded b m out → x ≡ recode_frame_of b m out
  unfolding recode_frame_of
  frame_taken_lem h f = let z : (taken_of b).answer.number ≡ 0 = ap (λ (x : Taken). x.answer.number) (sym e) ∙ h in rw (z, recode_frame_of) f
