-- The numbers of what several tests say: one test more. Assumes nothing.
use Rattle.std.proofs.Common.{ℕ, ◌≡◌, ◌+◌, ◌<◌, Result, Ok, List, length, take, get_or, map}
use Rattle.std.proofs.lemmas.List.{map_more}
use Rattle.refusal.specs.declared.Refusal.{Refusal}
use Rattle.refusal.specs.Refusal.{code, lower_of, lowest}
use Rattle.refusal.proofs.Laws.{lowest-push}

pub lowest_more : (ts : List (Result Unit Refusal)) (i : ℕ) (low new : Result Unit Refusal) → i < length ts → code low ≡ lowest (map code (take i ts))
    → code new ≡ lower_of (code low) (code (get_or ts i (Ok tt))) → code new ≡ lowest (map code (take (i + 1) ts))
lowest_more ts i low new h so_far e = rw (map_more code ts i (Ok tt) h, lowest-push) (rw so_far at e)
