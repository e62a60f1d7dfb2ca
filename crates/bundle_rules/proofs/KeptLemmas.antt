-- What is kept only grows.
use Rattle.std.proofs.Common.{◌≡◌, List, [], ◌∷◌, ◌++◌, sym, ◌∙◌, append_assoc, append-nil}
use Rattle.bundle_tree_names.specs.FileName.{Name}
use Rattle.bundle_rules.specs.Kept.{Kept, Answers, Stays}
use Rattle.bundle_rules.specs.Entries.{Settings}
use Rattle.bundle_rules.specs.Judging.{Grows, same, met}
use Rattle.bundle_rules.specs.Judging as j

nothing_more : {A : Type 0} (xs : List A) → (more : List A) × (xs ≡ xs ++ more)
nothing_more xs = ([], sym (append-nil xs))

one_more : {A : Type 0} (xs : List A) (x : A) (all : List A) → (more : List A) × (all ≡ (xs ++ x ∷ []) ++ more) → (more : List A) × (all ≡ xs ++ more)
one_more xs x all (more, e) = (x ∷ more, e ∙ append_assoc xs (x ∷ []) more)

-- growing by answers keeps what was kept
pub stays : (answers : Answers) (settings : Settings) (entries : List Name) (old new : Kept) → Grows answers settings entries old new → Stays old new
stays answers settings entries old new same = record { names = nothing_more old.names; trees = nothing_more old.trees; resolved = nothing_more old.resolved }
stays answers settings entries old new (met file not_met room asked grows) =
    let rest = stays answers settings entries _ new grows in
    record { names = one_more old.names file new.names rest.names; trees = rest.trees; resolved = rest.resolved }
stays answers settings entries old new (j.Grows.loaded file answer there none room may grows) =
    let rest = stays answers settings entries _ new grows in
    record { names = rest.names; trees = one_more old.trees _ new.trees rest.trees; resolved = rest.resolved }
stays answers settings entries old new (j.Grows.resolved asked asking file there its requested none may grows) =
    let rest = stays answers settings entries _ new grows in
    record { names = rest.names; trees = rest.trees; resolved = one_more old.resolved _ new.resolved rest.resolved }
