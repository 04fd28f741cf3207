-- The laws of records, for every width: what was written is read back, the other records stay, and what the calls answer.
use Rattle.std.specs.Prelude.{◌+◌, ◌-◌, ◌*◌, ◌/◌, ◌≤◌, ◌<◌, ◌≡◌, ◌&&◌, ◌++◌}
use Rattle.numbers.specs.Words.{Ok, Err, ℕ, suc, le-div_iff_mul-le, mul-le-mul_right, suc-mul, zero-add, arith, sym, ◌∙◌, ap, Bool, true, false, inl, inr, ⊎_elim, ltb, lt_or, both_true, both_false, le-ltb, lt-ltb, List, [], append-nil, length, get_or, take, drop, replicate, get_or-append, length-append, length-drop, length-replicate, ext_get_or, get_or-append-add, get_or-drop, get_or-take, length-take-le, build_listed, get_or_build, built, build_same, get_or_constant, copied, Off, length_copied, copied_in, copied_off}
use Rattle.lent.specs.Memory.{record_at, record_set, records_in, bytes_of, Written, record_written, record_found}
use Rattle.numbers.specs.declared.Refused.TheVariants as K

-- ---- a record, byte by byte
module _ (w : ℕ) (mem : List ℕ) (i : ℕ) where
  pub record_byte : (j : ℕ) → j < w → get_or (record_at w mem i) j 0 ≡ get_or mem (i * w + j) 0
  unfolding record_at
  record_byte j h = get_or_build w (λ j. get_or mem (i * w + j) 0) j 0 h

  pub record_is : (b : List ℕ) → length b ≡ w → ((j : ℕ) → j < w → get_or b j 0 ≡ get_or mem (i * w + j) 0) → b ≡ record_at w mem i
  unfolding record_at
  record_is b e h = built b w (λ j. get_or mem (i * w + j) 0) 0 e h

pub record_same : (w : ℕ) (p q : List ℕ) (i k : ℕ) → ((j : ℕ) → j < w → get_or p (i * w + j) 0 ≡ get_or q (k * w + j) 0) → record_at w p i ≡ record_at w q k
unfolding record_at
record_same w p q i k h = build_same w (λ j. get_or p (i * w + j) 0) (λ j. get_or q (k * w + j) 0) h

pub record_zeros : (w n i : ℕ) → record_at w (replicate n 0) i ≡ replicate w 0
record_zeros w n i = sym (record_is w (replicate n 0) i (replicate w 0) (length-replicate w 0) (λ j h. get_or_constant w j 0 ∙ sym (get_or_constant n (i * w + j) 0)))

-- n of them from a place on, given one by one
pub bytes_are : (from n : ℕ) (b l : List ℕ) → length l ≡ n → ((j : ℕ) → j < n → get_or l j 0 ≡ get_or b (from + j) 0) → bytes_of from n b ≡ l
bytes_are from n b l e h = sym (built l n (λ j. get_or b (from + j) 0) 0 e h ∙ build_listed n (λ j. get_or b (from + j) 0))

-- ---- where it lies
pub record_inside : (w n i : ℕ) → 0 < w → i < n / w → i * w + w ≤ n
record_inside w n i h l = let k : suc i * w ≤ n = (le-div_iff_mul-le h).0 l in rw suc-mul at k

-- records of two numbers do not touch
apart : (w i o j : ℕ) → (o ≡ i → ⊥) → j < w → Off (i * w) w (o * w + j)
apart w i o j n l =
    ⊎_elim
    (λ h. let k : suc o * w ≤ i * w = mul-le-mul_right {m = suc o} {n = i} w h in let s : suc o * w ≡ o * w + w = suc-mul o w in inl (omega arith))
    (λ h. let g : suc i ≤ o = omega arith in let k : suc i * w ≤ o * w = mul-le-mul_right {m = suc i} {n = o} w g in let s : suc i * w ≡ i * w + w = suc-mul i w in inr (omega arith))
    (lt_or o i)

-- ---- a record written
module _ (w : ℕ) (mem : List ℕ) (i : ℕ) (b : List ℕ) where
  pub record_set_length : length (record_set w mem i b) ≡ length mem
  unfolding record_set
  record_set_length = length_copied mem (i * w) b 0 w

  pub record_set_off : (p : ℕ) → Off (i * w) w p → get_or (record_set w mem i b) p 0 ≡ get_or mem p 0
  unfolding record_set
  record_set_off p h = copied_off mem (i * w) b 0 w p h

  pub record_set_in : 0 < w → i < records_in w mem → (j : ℕ) → j < w → get_or (record_set w mem i b) (i * w + j) 0 ≡ get_or b j 0
  unfolding record_set
  record_set_in z h j l = copied_in mem (i * w) b 0 w j (record_inside w (length mem) i z h) l ∙ ap (λ (n : ℕ). get_or b n 0) (zero-add j)

  -- what was written is read back
  pub record_back : 0 < w → i < records_in w mem → length b ≡ w → record_at w (record_set w mem i b) i ≡ b
  record_back z h e = sym (record_is w (record_set w mem i b) i b e (λ j l. sym (record_set_in z h j l)))

  -- the other records stay
  pub record_other : (o : ℕ) → (o ≡ i → ⊥) → record_at w (record_set w mem i b) o ≡ record_at w mem o
  record_other o n = record_same w (record_set w mem i b) mem o o (λ j l. record_set_off (o * w + j) (apart w i o j n l))

-- ---- the calls
module _ (w : ℕ) (mem : List ℕ) (i : ℕ) where
  module _ (fine : Bool) (b : List ℕ) where
    pub write_good : i < records_in w mem → fine ≡ true → record_written w mem i fine b ≡ record { answer = Ok tt; mem = record_set w mem i b }
    unfolding record_written
    write_good h e = rw (both_true (lt-ltb i (records_in w mem) h) e, record_written)

    refused : ltb i (records_in w mem) && fine ≡ false → record { answer = Err K.OutOfRange; mem = mem } ≡ record_written w mem i fine b
    unfolding record_written
    refused e = rw (e, record_written)

    pub write_place : records_in w mem ≤ i → record { answer = Err K.OutOfRange; mem = mem } ≡ record_written w mem i fine b
    write_place h = refused (rw (le-ltb i (records_in w mem) h))

    pub write_values : fine ≡ false → record { answer = Err K.OutOfRange; mem = mem } ≡ record_written w mem i fine b
    write_values e = refused (both_false (ltb i (records_in w mem)) e)

    -- as the code stores it, with the record's start worked out
    pub write_stored : {at : ℕ} {y : List ℕ} → i < records_in w mem → fine ≡ true → at ≡ i * w → y ≡ copied mem at b 0 w → record { answer = Ok tt; mem = y } ≡ record_written w mem i fine b
    unfolding record_set
    write_stored {at} {y} h e f g =
        let z : y ≡ record_set w mem i b = g ∙ ap (λ (a : ℕ). copied mem a b 0 w) f in
        rw z (sym (write_good h e))

  -- a record that is known by its bytes
  pub written_as : {f fine : Bool} {b bytes : List ℕ} {x : Written} → length b ≡ w → f ≡ fine → b ≡ bytes → x ≡ record_written (length b) mem i f b → x ≡ record_written w mem i fine bytes
  written_as e g h k = k ∙ (λ o. record_written (e o) mem i (g o) (h o))

  pub read_good : i < records_in w mem → record_found w mem i ≡ record { answer = Ok tt; bytes = record_at w mem i }
  unfolding record_found
  read_good h = rw (lt-ltb i (records_in w mem) h, record_found)

  pub read_place : {b : List ℕ} → b ≡ replicate w 0 → records_in w mem ≤ i → record { answer = Err K.OutOfRange; bytes = b } ≡ record_found w mem i
  unfolding record_found
  read_place e h = rw (le-ltb i (records_in w mem) h, record_found, e)

-- numbers stored over as many others, between two lists
pub copied_middle : (a b c d : List ℕ) → length b ≡ length c → copied (a ++ (b ++ d)) (length a) c 0 (length c) ≡ a ++ (c ++ d)
copied_middle a b c d e =
    ext_get_or 0 (copied l (length a) c 0 (length c)) (a ++ (c ++ d)) (stays ∙ same_long) (λ i h. at i)
  where
    l : List ℕ
    l = a ++ (b ++ d)

    stays : length (copied l (length a) c 0 (length c)) ≡ length l
    stays = length_copied l (length a) c 0 (length c)

    long : length l ≡ length a + (length b + length d)
    long = length-append a (b ++ d) ∙ ap (λ (n : ℕ). length a + n) (length-append b d)

    long' : length (a ++ (c ++ d)) ≡ length a + (length c + length d)
    long' = length-append a (c ++ d) ∙ ap (λ (n : ℕ). length a + n) (length-append c d)

    same_long : length l ≡ length (a ++ (c ++ d))
    same_long = long ∙ ap (λ (n : ℕ). length a + (n + length d)) e ∙ sym long'

    inner : (j : ℕ) → j < length c → get_or (copied l (length a) c 0 (length c)) (length a + j) 0 ≡ get_or (a ++ (c ++ d)) (length a + j) 0
    inner j h =
        copied_in l (length a) c 0 (length c) j (omega (arith, long)) h ∙ ap (λ (n : ℕ). get_or c n 0) (zero-add j)
        ∙ sym (get_or-append-add a (c ++ d) j 0 ∙ get_or-append c d 0 j h)

    later : (j : ℕ) → get_or (copied l (length a) c 0 (length c)) (length a + (length c + j)) 0 ≡ get_or (a ++ (c ++ d)) (length a + (length c + j)) 0
    later j =
        copied_off l (length a) c 0 (length c) (length a + (length c + j)) (inr (omega arith))
        ∙ get_or-append-add a (b ++ d) (length c + j) 0 ∙ ap (λ (n : ℕ). get_or (b ++ d) (n + j) 0) (sym e) ∙ get_or-append-add b d j 0
        ∙ sym (get_or-append-add a (c ++ d) (length c + j) 0 ∙ get_or-append-add c d j 0)

    at : (i : ℕ) → get_or (copied l (length a) c 0 (length c)) i 0 ≡ get_or (a ++ (c ++ d)) i 0
    at i = ⊎_elim
        (λ h. copied_off l (length a) c 0 (length c) i (inl h) ∙ get_or-append a (b ++ d) 0 i h ∙ sym (get_or-append a (c ++ d) 0 i h))
        (λ h. ⊎_elim
        (λ k. let f : i ≡ length a + (i - length a) = omega arith in rw f (inner (i - length a) k))
        (λ k. let f : i ≡ length a + (length c + (i - length a - length c)) = omega arith in rw f (later (i - length a - length c)))
        (lt_or (i - length a) (length c)))
        (lt_or i (length a))

-- numbers stored over the whole of a list are what it then holds
copied_whole : (z b : List ℕ) → length z ≡ length b → copied z 0 b 0 (length b) ≡ b
copied_whole z b e = rw (append-nil z, append-nil b) at (copied_middle [] z b [] e)

-- a part of memory, copied over as many others
pub read_stored : (mem z : List ℕ) (i : ℕ) {at e : ℕ} {x : List ℕ} → 0 < length z → i < records_in (length z) mem → at ≡ i * length z → at + length z ≡ e
    → x ≡ copied z 0 (take (e - at) (drop at mem)) 0 (length (take (e - at) (drop at mem))) → record { answer = Ok tt; bytes = x } ≡ record_found (length z) mem i
read_stored mem z i {at} {e} {x} p h f l g =
    let w : ℕ = length z in
    let k : i * w + w ≤ length mem = record_inside w (length mem) i p h in
    let n : e - at ≡ w = omega arith in
    let t : List ℕ = take (e - at) (drop at mem) in
    let q : length t ≡ w = length-take-le (e - at) (drop at mem) (rw length-drop (omega arith)) ∙ n in
    let s : x ≡ t = g ∙ copied_whole z t (sym q) in
    let r : t ≡ record_at w mem i = record_is w mem i t q (λ j o. get_or-take (e - at) (drop at mem) j 0 (omega arith) ∙ get_or-drop at mem j 0 ∙ ap (λ (a : ℕ). get_or mem (a + j) 0) f) in
    rw (s ∙ r) (sym (read_good w mem i h))
