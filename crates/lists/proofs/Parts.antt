-- Parts of a list: a part that is put is read back, the others stay; a flat list of blocks of w; a part that is moved; one cut to what is there. By
-- arithmetic on the lengths.
use mathlib.Core.Path.{◌≡◌, refl, sym, ap, ap₂, ◌∙◌}
use mathlib.Core.Logic.{◌≢◌}
use Prim.Native.Nat.{ℕ, zero, suc, min, ◌+◌, ◌*◌, ◌-◌, ◌≤◌, ◌<◌}
use mathlib.Core.List.{List, [], ◌∷◌, ◌++◌, append_assoc}
use native.Mathlib.Omega.{arith}
use native.Mathlib.Nat.{zero-mul, suc-mul, mul-le-mul_right, add-sub_of_le}
use native.Mathlib.Decide.{dec_lt}
use native.Mathlib.Numerals.{add-one}
use lib.ListN.{length, get_or, set, get_or-append, take, drop, length-drop, length-append, take-append-drop, replicate, length-replicate, replicate-append-replicate}
use lib.Seq.{take_at, drop_at, drop-append-le, take-append-le, length-take-le, drop-drop, take-take, get_or-take, get_or-drop, take_all, drop-length, drop-nil, take-nil, paste, paste-suc}
use Rattle.lists.specs.Lists.{part, with_part}

pub take_drop_take : {A : Type 0} (b w a : ℕ) (d : List A) → b + w ≤ a → take w (drop b (take a d)) ≡ take w (drop b d)
take_drop_take zero w a d h = take-take w a d (omega arith)
take_drop_take (suc b) w zero d h = absurd (omega arith)
take_drop_take (suc b) w (suc a) [] h = refl
take_drop_take (suc b) w (suc a) (x ∷ d) h = take_drop_take b w a d (omega arith)

module _ {A : Type 0} (d : List A) (a w : ℕ) (o : List A) (h : a + w ≤ length d) where
  head_length : length (take a d) ≡ a
  head_length = length-take-le a d (omega arith)

  rest : drop a (with_part a w o d) ≡ o ++ drop (a + w) d
  rest = drop_at (take a d) (o ++ drop (a + w) d) a head_length

  pub with_before : (b : ℕ) → b + w ≤ a → part b w (with_part a w o d) ≡ part b w d
  with_before b l =
      let p : b ≤ length (take a d) = omega (arith, head_length) in
      let q : w ≤ length (drop b (take a d)) = rw length-drop (omega (arith, head_length)) in
      rw (drop-append-le b (take a d), take-append-le w (drop b (take a d))) (take_drop_take b w a d l)

  module _ (e : length o ≡ w) where
    pub with_same : part a w (with_part a w o d) ≡ o
    with_same = ap (take w) rest ∙ take_at o (drop (a + w) d) w e

    drop_with : drop (a + w) (with_part a w o d) ≡ drop (a + w) d
    drop_with = sym (drop-drop w a (with_part a w o d)) ∙ ap (drop w) rest ∙ drop_at o (drop (a + w) d) w e

    pub with_after : (b : ℕ) → a + w ≤ b → part b w (with_part a w o d) ≡ part b w d
    with_after b l =
        let c = b - (a + w) in
        let q : a + w + c ≡ b = add-sub_of_le l in
        ap (take w)
        (ap (λ k. drop k (with_part a w o d)) (sym q)
        ∙ sym (drop-drop c (a + w) (with_part a w o d))
        ∙ ap (drop c) drop_with
        ∙ drop-drop c (a + w) d
        ∙ ap (λ k. drop k d) q)

    pub with_length : length (with_part a w o d) ≡ length d
    with_length = omega (arith, length-append (take a d) (o ++ drop (a + w) d), length-append o (drop (a + w) d), length-drop (a + w) d, head_length, e)

pub room : (w : ℕ) {j k : ℕ} → j < k → j * w + w ≤ k * w
room w {j} {k} h = let p : suc j * w ≤ k * w = mul-le-mul_right w h in omega (arith, suc-mul j w)

-- the blocks of a list of k blocks
module _ {A : Type 0} (w k : ℕ) (d : List A) (long : k * w ≤ length d) where
  pub block_same : (j : ℕ) (o : List A) → j < k → length o ≡ w → part (j * w) w (with_part (j * w) w o d) ≡ o
  block_same j o h e = with_same d (j * w) w o (omega (arith, room w h)) e

  pub block_other : (j i : ℕ) (o : List A) → j < k → i ≢ j → length o ≡ w → part (i * w) w (with_part (j * w) w o d) ≡ part (i * w) w d
  block_other j i o h ne e = elim (dec_lt i j) [
    | yes q ↦ with_before d (j * w) w o (omega (arith, room w h)) (i * w) (room w q)
    | no q ↦ with_after d (j * w) w o (omega (arith, room w h)) e (i * w) (room w (omega arith))
  ]

  pub block_length : (j : ℕ) (o : List A) → j < k → length o ≡ w → length (with_part (j * w) w o d) ≡ length d
  block_length j o h e = with_length d (j * w) w o (omega (arith, room w h)) e

  pub part_length : (j : ℕ) → j < k → length (part (j * w) w d) ≡ w
  part_length j h = length-take-le w (drop (j * w) d) (rw length-drop (omega (arith, room w h)))

-- a block of the first k, whatever stands behind them
pub block_front : {A : Type 0} (w k : ℕ) (d e : List A) → length d ≡ k * w → (j : ℕ) → j < k → part (j * w) w (d ++ e) ≡ part (j * w) w d
block_front w k d e h j l =
    let p : j * w ≤ length d = omega (arith, room w l) in
    let q : w ≤ length (drop (j * w) d) = rw length-drop (omega (arith, room w l)) in
    rw (drop-append-le (j * w) d, take-append-le w (drop (j * w) d))

-- two lists of k blocks that agree block by block are equal
pub blocks_same : {A : Type 0} (w k : ℕ) (d e : List A) → length d ≡ k * w → length e ≡ k * w → ((j : ℕ) → j < k → part (j * w) w d ≡ part (j * w) w e) → d ≡ e
blocks_same w zero [] [] p q h = refl
blocks_same w zero [] (x ∷ e) p q h = absurd (omega arith)
blocks_same w zero (x ∷ d) e p q h = absurd (omega arith)
blocks_same {A = A} w (suc k) d e p q h =
    let m = suc-mul k w in
    let z : (l : List A) → part (0 * w) w l ≡ take w l = λ l. ap (λ n. take w (drop n l)) (zero-mul w) in
    let next : (j : ℕ) → j < k → part (j * w) w (drop w d) ≡ part (j * w) w (drop w e) = λ j l.
    (let g : w + j * w ≡ suc j * w = omega (arith, suc-mul j w) in
    ap (take w) (drop-drop (j * w) w d ∙ ap (λ n. drop n d) g) ∙ h (suc j) (omega arith) ∙ sym (ap (take w) (drop-drop (j * w) w e ∙ ap (λ n. drop n e) g))) in
    sym (take-append-drop w d)
    ∙ ap₂ ◌++◌ (sym (z d) ∙ h 0 (omega arith) ∙ z e) (blocks_same w k (drop w d) (drop w e) (rw length-drop (omega arith)) (rw length-drop (omega arith)) next)
    ∙ take-append-drop w e

-- ---- a part that is moved further back in the same list, entry by entry
module _ {A : Type 0} (from to n : ℕ) (d : List A) (apart : from + n ≤ to) (fits : to + n ≤ length d) where
  abbrev pub moved_to : ℕ → List A
  moved_to i = paste d to (part from n d) i

  pub moved_more : (i : ℕ) → i < n → (l : List A) → l ≡ moved_to i → (z : A) → set l (to + i) (get_or l (from + i) z) ≡ moved_to (i + 1)
  moved_more i h l e z =
      let s = part from n d in
      let head : length (take to d) ≡ to = length-take-le to d (omega arith) in
      let front : from + i < length (take to d ++ take i s) = omega (arith, length-append (take to d) (take i s)) in
      let read : get_or (moved_to i) (from + i) z ≡ get_or s i z =
      get_or-append (take to d ++ take i s) (drop (to + i) d) z (from + i) front
      ∙ get_or-append (take to d) (take i s) z (from + i) (omega arith)
      ∙ get_or-take to d (from + i) z (omega arith)
      ∙ sym (get_or-take n (drop from d) i z h ∙ get_or-drop from d i z) in
      let room : i < length s = omega (arith, length-take-le n (drop from d) (rw length-drop (omega arith))) in
      rw (e, read, add-one) (paste-suc d to s i z (omega arith) room)

  pub moved_all : moved_to n ≡ with_part to n (part from n d) d
  moved_all = rw (take-take n n (drop from d) (omega arith)) (append_assoc (take to d) (part from n d) (drop (to + n) d))

-- a part that is replaced twice
pub with_with : {A : Type 0} (at n : ℕ) (p q s : List A) → at + n ≤ length s → length p ≡ n → with_part at n q (with_part at n p s) ≡ with_part at n q s
with_with {A = A} at n p q s h e =
    ap₂ (λ (x y : List A). x ++ (q ++ y))
    (take_at (take at s) (p ++ drop (at + n) s) at (length-take-le at s (omega arith)))
    (drop_with s at n p h e)

-- a part of the list that was lent and came back as z
pub lent_part : {A : Type 0} (at n : ℕ) (s z : List A) → take at s ++ (z ++ drop ((at + n) - at) (drop at s)) ≡ with_part at n z s
lent_part at n s z =
    let k : (at + n) - at ≡ n = omega arith in
    rw (k, drop-drop)

-- a list of one value, block by block
drop-replicated : {A : Type 0} (k n : ℕ) (a : A) → drop k (replicate (k + n) a) ≡ replicate n a
drop-replicated k n a = ap (drop k) (sym (replicate-append-replicate k n a)) ∙ drop_at (replicate k a) (replicate n a) k (length-replicate k a)

pub replicated : {A : Type 0} (w k : ℕ) (a : A) (j : ℕ) → j < k → part (j * w) w (replicate (k * w) a) ≡ replicate w a
replicated w k a j h =
    let r = (k * w) - (j * w + w) in
    let e : j * w + (w + r) ≡ k * w = omega (arith, room w h) in
    ap (λ (n : ℕ). take w (drop (j * w) (replicate n a))) (sym e)
    ∙ ap (take w) (drop-replicated (j * w) (w + r) a)
    ∙ ap (take w) (sym (replicate-append-replicate w r a))
    ∙ take_at (replicate w a) (replicate r a) w (length-replicate w a)

-- ---- a part cut to what is there

drop_past : {A : Type 0} (k : ℕ) (s : List A) → length s ≤ k → drop k s ≡ []
drop_past k s h =
    let e : length s + (k - length s) ≡ k = omega arith in
    ap (λ (i : ℕ). drop i s) (sym e) ∙ sym (drop-drop (k - length s) (length s) s) ∙ ap (drop (k - length s)) (drop-length s) ∙ drop-nil (k - length s)

cut_at : {A : Type 0} (at n : ℕ) (s : List A) → at ≤ length s → take (min n (length s - at)) (drop at s) ≡ take n (drop at s)
cut_at at n s h = elim (dec_lt n (length s - at)) [
  | yes l ↦ let e : min n (length s - at) ≡ n = omega arith in ap (λ (k : ℕ). take k (drop at s)) e
  | no l ↦
      take_all (min n (length s - at)) (drop at s) (omega (arith, length-drop at s)) ∙ sym (take_all n (drop at s) (omega (arith, length-drop at s)))
]

pub cut : {A : Type 0} (at n start len : ℕ) (s : List A) → start ≡ min at (length s) → len ≡ min n (length s - start)
    → take ((start + len) - start) (drop start s) ≡ take n (drop at s)
cut at n start len s p q = elim (dec_lt (length s) at) [
  | yes l ↦
      let z : (start + len) - start ≡ 0 = omega arith in
      rw z (sym (ap (take n) (drop_past at s (omega arith)) ∙ take-nil n))
  | no l ↦
      let e : start ≡ at = omega arith in
      let z : (start + len) - start ≡ min n (length s - at) = omega arith in
      rw (z, e) (cut_at at n s (omega arith))
]
