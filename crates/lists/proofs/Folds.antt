-- Folds over the items of an iterator, and of a test over a list. By the list.
use Rattle.std.proofs.Common.{◌≡◌, ◌∙◌, sym, subst, ap, Bool, true, ◌&&◌, List, [], ◌∷◌, Option, map}
use mathlib.Core.Bool.{and-true, and_assoc}
use Rattle.std.specs.List.{fold}
use Rattle.std.specs.Iterator.{DrainsIf}
use Rattle.std.specs.Iterator.Runs.{Run, YieldsRun}
use Rattle.std.proofs.lemmas.List.Folds.{fold-map}
use Rattle.std.proofs.lemmas.Iterator.{YieldsList, items_from_drains}
use Rattle.lists.specs.Tests.{every}

took : {S A : Type 0} {steps : S → Option A → S → Type 0} (p : Run steps) → DrainsIf steps (p.whole ≡ true) p.from p.items
unfolding YieldsRun
took p = p.gave.0

-- what a whole run of an iterator gave: the list that its chain proof says
pub whole_items : {S A B : Type 0} {steps : S → Option A → S → Type 0} {v : A → B} {s : S} {all : List B} → YieldsList steps v s all
    → (p : Run steps) → p.from ≡ s → p.whole ≡ true → map v p.items ≡ all
whole_items {steps = steps} road p at w =
    let d = subst (λ k. DrainsIf steps (p.whole ≡ true) k p.items) at (took p) in items_from_drains p.items (d.0, d.1, λ _. d.2 w) road

-- a fold over what the items read as
pub fold_read : {A B C : Type 0} (v : A → C) (f : B → C → B) (b : B) (ps : List A) (xs : List C) → map v ps ≡ xs → fold (λ b p. f b (v p)) b ps ≡ fold f b xs
fold_read v f b ps xs e = sym (fold-map f v b ps) ∙ ap (fold f b) e

pub fold_every : {A : Type 0} (test : A → Bool) (ok : Bool) (xs : List A) → fold (λ ok x. ok && test x) ok xs ≡ (ok && every test xs)
fold_every test ok [] = sym (and-true ok)
fold_every test ok (x ∷ xs) = fold_every test (ok && test x) xs ∙ and_assoc ok (test x) (every test xs)
