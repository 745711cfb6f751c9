-- The split map written link by link: two bytes for each link passed, and for each part how many links it has so far, which is the next one's number.
use Prim.Native.Nat.{ℕ, zero, suc, ◌+◌, ◌*◌, ◌≤◌, ◌<◌}
use mathlib.Core.Path.{◌≡◌, refl, sym, ap, subst, ◌∙◌}
use mathlib.Core.Bool.{Bool, true, false, cond}
use mathlib.Core.List.{List, [], ◌∷◌, ◌++◌, append_assoc}
use native.Mathlib.Omega.{arith}
use native.Mathlib.Numerals.{add-one}
use borrow.Author.Tests.{eqb-true, eqb-false, eq-eqb}
use lib.ListN.{length, take, drop, get_or, set, replicate, length-append, length-drop, length-set, get_or-replicate}
use lib.Seq.{drop-cons, get_or-take, get_or-set_same, get_or-set_other}
use lib.Dec.{eqb}
use Rattle.lists.proofs.Numbers.{get_or-each, count_le, count_same}
use Rattle.lists.specs.Numbers.{each, one_more, count_below}
use Rattle.limits.specs.Limits.{link_limit}
use Rattle.topology.specs.declared.Split.{Split}
use Rattle.topology.specs.Parents.{parents_fit}
use Rattle.topology.specs.Split.{survives, part_count, part_of, is_head, is_in, number_of, gone, part_byte, number_byte, split_map}
use Rattle.topology.specs.Numbered.{part_if_any, part_at, is_part, byte_of, number_for, numbered, PartsBelow}
use Rattle.std.proofs.Common.{Option, Some, None}
use Rattle.std.specs.Option.{MatchOption}
use Rattle.std.specs.Bool.{⊤}
use Rattle.topology.proofs.Pass.{part_below}

two_in : (xs rest : List ℕ) (x y a b : ℕ) → set (set (xs ++ x ∷ y ∷ rest) (length xs) a) (suc (length xs)) b ≡ xs ++ a ∷ b ∷ rest
two_in [] rest x y a b = refl
two_in (z ∷ xs) rest x y a b = ap (λ (l : List ℕ). z ∷ l) (two_in xs rest x y a b)

-- two stores behind a list of k
two_more : (xs old : List ℕ) (k a b : ℕ) → length xs ≡ k → k + 1 < length old → set (set (xs ++ drop k old) k a) (k + 1) b ≡ (xs ++ (a ∷ b ∷ [])) ++ drop (k + 2) old
two_more xs old k a b e h =
    let s : k + 2 ≡ suc (suc k) = omega arith in
    rw (append_assoc, s, drop-cons old k 0 (omega arith), drop-cons old (suc k) 0 (omega arith), add-one, ← e) (two_in xs _ _ _ a b)

numbered_length : (qs : List (Option ℕ)) (j : ℕ) → length (numbered qs j) ≡ 2 * j
unfolding numbered
numbered_length qs zero = refl
numbered_length qs (suc j) = rw (length-append, numbered_length qs j) (omega arith)

count_more : (j : ℕ) (f : ℕ → Bool) → count_below (j + 1) f ≡ one_more (f j) (count_below j f)
unfolding count_below
count_more j f = rw add-one

pub record Mapped (qs : List (Option ℕ)) (map₀ : List ℕ) (j : ℕ) (map seen : List ℕ) : Type 0 where
  pub written : map ≡ numbered qs j ++ drop (2 * j) map₀
  pub room : length seen ≡ link_limit
  pub counted : (q : ℕ) → q < link_limit → get_or seen q 0 ≡ count_below j (λ i. is_part q (part_at qs i))

module _ (qs : List (Option ℕ)) (map₀ : List ℕ) where
  pub mapped_none : Mapped qs map₀ 0 map₀ (replicate link_limit 0)
  unfolding numbered count_below
  mapped_none = record { written = refl; room = refl; counted = λ q h. get_or-replicate link_limit q 0 0 h }

  module _ (j : ℕ) (map seen : List ℕ) (t : Mapped qs map₀ j map seen) where
    pub mapped_length : 2 * j ≤ length map₀ → length map ≡ length map₀
    mapped_length h = ap length t.written ∙ rw (length-append, numbered_length qs j, length-drop) (omega arith)

    pub seen_le : (q : ℕ) → q < link_limit → get_or seen q 0 ≤ j
    seen_le q h = rw (t.counted q h) (count_le (λ i. is_part q (part_at qs i)) j)

    stored : (p n : ℕ) → 2 * j + 1 < length map₀ → p ≡ byte_of (part_at qs j) → n ≡ number_for qs j (part_at qs j)
        → set (set map (2 * j) p) (2 * j + 1) n ≡ numbered qs (j + 1) ++ drop (2 * (j + 1)) map₀
    unfolding numbered
    stored p n h f e =
        let d : 2 * j + 2 ≡ 2 * (j + 1) = omega arith in
        rw (t.written, e, f)
        (two_more (numbered qs j) map₀ (2 * j) (byte_of (part_at qs j)) (number_for qs j (part_at qs j)) (numbered_length qs j) h ∙ rw (d, add-one))

    tally : (p : ℕ) → part_at qs j ≡ Some p → p < link_limit → (q : ℕ) → q < link_limit → (b : Bool) → eqb p q ≡ b
        → get_or (set seen p (get_or seen p 0 + 1)) q 0 ≡ count_below (j + 1) (λ i. is_part q (part_at qs i))
    tally p s l q g true e =
        subst (λ (k : ℕ). get_or (set seen p (get_or seen p 0 + 1)) k 0 ≡ count_below (j + 1) (λ i. is_part k (part_at qs i))) (eqb-true p q e)
        (get_or-set_same seen p _ 0 (rw t.room l) ∙ add-one _ ∙ ap suc (t.counted p l)
        ∙ sym (count_more j (λ i. is_part p (part_at qs i)) ∙ ap (λ (o : Option ℕ). one_more (is_part p o) (count_below j (λ i. is_part p (part_at qs i)))) s ∙ rw (eq-eqb p p refl)))
    tally p s l q g false e =
        get_or-set_other seen p q _ 0 (λ x. eqb-false p q e (sym x)) ∙ t.counted q g
        ∙ sym (count_more j (λ i. is_part q (part_at qs i)) ∙ ap (λ (o : Option ℕ). one_more (is_part q o) (count_below j (λ i. is_part q (part_at qs i)))) s ∙ rw e)

    -- a link of a part
    pub mapped_part : (p : ℕ) → part_at qs j ≡ Some p → 2 * j + 1 < length map₀ → p < link_limit
        → Mapped qs map₀ (j + 1) (set (set map (2 * j) p) (2 * j + 1) (get_or seen p 0)) (set seen p (get_or seen p 0 + 1))
    mapped_part p s h l = record {
      written = stored p (get_or seen p 0) h (rw s) (rw s (t.counted p l));
      room = length-set seen p _ ∙ t.room;
      counted = λ q g. tally p s l q g (eqb p q) refl;
    }

    -- the deleted link
    pub mapped_gone : part_at qs j ≡ None → 2 * j + 1 < length map₀ → Mapped qs map₀ (j + 1) (set (set map (2 * j) gone) (2 * j + 1) gone) seen
    mapped_gone s h = record {
      written = stored gone gone h (rw s) (rw s);
      room = t.room;
      counted = λ q g. t.counted q g
          ∙ sym (count_more j (λ i. is_part q (part_at qs i)) ∙ ap (λ (o : Option ℕ). one_more (is_part q o) (count_below j (λ i. is_part q (part_at qs i)))) s);
    }

-- ---- the map so written is the split's

module _ (ps : List ℕ) (s : Split) (qs : List (Option ℕ)) (right : take (length ps) qs ≡ each (length ps) (part_if_any ps s)) where
  part_right : (j : ℕ) → j < length ps → part_at qs j ≡ part_if_any ps s j
  part_right j h = sym (get_or-take (length ps) qs j None h) ∙ ap (λ (l : List (Option ℕ)). get_or l j None) right ∙ get_or-each (part_if_any ps s) (length ps) j None h

  module _ (fit : parents_fit ps ≡ true) (few : length ps ≤ link_limit) where
    small : (j : ℕ) → j < length ps → survives s j ≡ true → part_of ps s j < link_limit
    unfolding part_count
    small j h a = omega (arith, part_below ps s fit j (h, a), count_le (is_head ps s) (length ps))

    pub parts_below : PartsBelow (length ps) qs
    unfolding part_if_any
    parts_below j h = rw (part_right j h) (go (survives s j) refl)
      where
        go : (b : Bool) → survives s j ≡ b → MatchOption (cond b (Some (part_of ps s j)) None) ⊤ (λ q. q < link_limit)
        go true e = small j h e
        go false e = tt

  byte_right : (j : ℕ) → j < length ps → byte_of (part_at qs j) ≡ part_byte ps s j
  unfolding part_if_any part_byte
  byte_right j h = rw (part_right j h) (go (survives s j))
    where
      go : (b : Bool) → byte_of (cond b (Some (part_of ps s j)) None) ≡ cond b (part_of ps s j) gone
      go true = refl
      go false = refl

  -- an earlier link counts exactly if it is a survivor of the part
  counts : (q i : ℕ) (b : Bool) → survives s i ≡ b → is_part q (part_if_any ps s i) ≡ is_in ps s q i
  unfolding part_if_any is_in
  counts q i true e = rw e
  counts q i false e = rw e

  number_right : (j : ℕ) → j < length ps → (b : Bool) → survives s j ≡ b → number_for qs j (part_at qs j) ≡ number_byte ps s j
  unfolding part_if_any number_byte number_of
  number_right j h true e =
      rw (part_right j h, e)
      (count_same j _ _ (λ i g. ap (is_part (part_of ps s j)) (part_right i (omega arith)) ∙ counts (part_of ps s j) i (survives s i) refl))
  number_right j h false e = rw (part_right j h, e)

  pub map-to : (n : ℕ) → n ≤ length ps → numbered qs n ≡ split_map ps s n
  unfolding numbered split_map
  map-to zero h = refl
  map-to (suc n) h = rw (map-to n (omega arith), byte_right n (omega arith), number_right n (omega arith) (survives s n) refl)

pub map-length : (ps : List ℕ) (s : Split) (n : ℕ) → length (split_map ps s n) ≡ 2 * n
unfolding split_map
map-length ps s zero = refl
map-length ps s (suc n) = rw (length-append, map-length ps s n) (omega arith)
