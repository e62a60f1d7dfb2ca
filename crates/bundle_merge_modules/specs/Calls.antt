-- What a part holds, as items by module, and what a closure answers for those of a module.
use Rattle.std.specs.Prelude.{◌≡◌, ℕ, Bool, List, Option, Result, Ok, Err, map}
use Rattle.std.specs.Borrow.{Bor}
use Rattle.std.specs.declared.alloc.Global.{Global}
use Rattle.std.specs.declared.vec.Vec.{Vec}
use Rattle.bundle_merge_modules.specs.Groups.{Groups}
use Rattle.bundle_merge_modules.specs.Parts.{OwnedOf}
use Rattle.bundle_merge_modules.specs.Refused.{StopsAt}
use Rattle.bundle_merge_modules.specs.declared.part.ModuleItems.{ModuleItems}

-- a module with its items
abbrev pub group_items : {A : Type 0} → ℕ × Vec A Global → ℕ × List A
group_items e = (e.0, e.1.items)

-- the items of a part, by module
abbrev pub groups_of : {A : Type 0} → ModuleItems A → Groups A
groups_of part = map group_items part.modules.entries

-- a call for a module and an item may answer this
abbrev pub AsksOf : {A : Type 0} → (ℕ → Bor A → Bool → Type 0) → ℕ → A → Bool → Type 0
AsksOf calls m item answer = (given : Bor _) × (given.now ≡ item) × calls m given answer

-- a call for a module and these items may answer those
abbrev pub AnswersOf : {A E : Type 0} → (ℕ → Bor (List A) → Result (Vec A Global) E → Type 0) → ℕ →
    List A → List A → Type 0
AnswersOf calls m items answer =
    (given : Bor (List _)) × (got : Vec _ Global) × (given.now ≡ items) × calls m given (Ok got)
    × (got.items ≡ answer)

-- a call for a module and an item may answer that item
abbrev pub RepliesOf : {A E : Type 0} → (ℕ → Bor A → Result A E → Type 0) → ℕ → A → A → Type 0
RepliesOf calls m item answer = (given : Bor _) × (given.now ≡ item) × calls m given (Ok answer)

-- a call for a module and an item may answer an item, or none
abbrev pub PicksOf :
    {A E : Type 0} → (ℕ → Bor A → Result (Option A) E → Type 0) → ℕ → A → Option A → Type 0
PicksOf calls m item answer = (given : Bor _) × (given.now ≡ item) × calls m given (Ok answer)

-- a call for a module and what it has may be refused so
abbrev pub RefusesOf : {A B E : Type 0} → (ℕ → Bor A → Result B E → Type 0) → E → ℕ × A → Type 0
RefusesOf calls refusal one =
    (given : Bor _) × (given.now ≡ one.1) × calls one.0 given (Err refusal)

-- of calls for these lists of modules in turn, one may be refused so, where all before it are
-- answered
abbrev pub RefusesListOf : {A E : Type 0} → (ℕ → Bor (List A) → Result (Vec A Global) E → Type 0) →
    E → List (ℕ × List A) → Type 0
RefusesListOf calls refusal lists =
    StopsAt (λ one. (answer : List _) × AnswersOf calls one.0 one.1 answer)
    (RefusesOf calls refusal) lists

-- the same of calls for items
abbrev pub RefusesItemOf :
    {A E : Type 0} → (ℕ → Bor A → Result A E → Type 0) → E → List (OwnedOf A) → Type 0
RefusesItemOf calls refusal items =
    StopsAt (λ one. (answer : _) × RepliesOf calls one.0 one.1 answer) (RefusesOf calls refusal)
    items

-- the same where none may be answered too
abbrev pub RefusesPickOf :
    {A E : Type 0} → (ℕ → Bor A → Result (Option A) E → Type 0) → E → List (OwnedOf A) → Type 0
RefusesPickOf calls refusal items =
    StopsAt (λ one. (answer : Option _) × PicksOf calls one.0 one.1 answer)
    (RefusesOf calls refusal) items
