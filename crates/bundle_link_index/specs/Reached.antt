-- The modules to which stars lead, those that have an entry of a name, and names for which the same
-- is given.
use Rattle.std.specs.Prelude.{◌≡◌, ◌≢◌, ◌⊎◌, ℕ, ◌<◌, nat_eq, List, [], ◌∷◌, ◌++◌, Some, None, Contains, map, slice_get, unwrap_or, if◌then◌else◌}
use Rattle.std.specs.Map.{lookup}
use Rattle.std.specs.declared.vec.Vec.{Vec}
use Rattle.std.specs.declared.alloc.Global.{Global}
use Rattle.indexmap.specs.IndexMap.{IndexMap}
use Rattle.bundle_order_graph.specs.Walks.{Reaches}
use Rattle.bundle_link_index.specs.declared.answer.Candidates.{Candidates}
use Rattle.bundle_link_index.specs.declared.answer.Candidates.TheVariants.{Missing, One, Two}
use Rattle.bundle_link_index.specs.declared.line.Onward.{Onward}
use Rattle.bundle_link_index.specs.declared.line.Onward.TheVariants.{To, Nothing, Apart}
use Rattle.bundle_link_index.specs.declared.line.LineStep.{LineStep}
use Rattle.bundle_link_index.specs.declared.line.NotedReach.{NotedReach}
use Rattle.bundle_link_index.specs.declared.line.LineStep.TheVariants.{To as On, Done}
use Rattle.bundle_link_index.specs.Graph.{NameSpot, Graph, own_of, stars_of}
use Rattle.bundle_link_index.specs.Given.{Given, IsCandidates, AreAnswersRight, IsIn}

-- one module stars another
abbrev pub Starring : Graph → ℕ → ℕ → Type 0
Starring g m d = Contains (stars_of g m) d

-- the module has an own entry of the name
abbrev pub HasOwn : Graph → ℕ → ℕ → Type 0
HasOwn g n m = own_of g (m, n) ≢ None

-- the list begins with a module and has exactly those to which stars lead from it
pub record IsReach (g : Graph) (start : ℕ) (list : List ℕ) : Type 0 where
  pub first : slice_get list 0 ≡ Some start
  pub reached : (k : ℕ) → IsIn list k → Reaches (Starring g) start k
  pub all : (k : ℕ) → Reaches (Starring g) start k → IsIn list k

-- the list has exactly the modules to which stars lead from one
pub record HasReach (g : Graph) (start : ℕ) (list : List ℕ) : Type 0 where
  pub reached : (k : ℕ) → IsIn list k → Reaches (Starring g) start k
  pub all : (k : ℕ) → Reaches (Starring g) start k → IsIn list k

-- it has those of the module that is noted with it
abbrev pub IsReachNoted : Graph → NotedReach → Type 0
IsReachNoted g reach =
    (start : ℕ) → reach.start ≡ Some start → HasReach g start reach.modules.keys

-- what the modules of the list star is in it
abbrev pub AreStarsWithin : Graph → List ℕ → Type 0
AreStarsWithin g list = (k d : ℕ) → IsIn list k → Starring g k d → IsIn list d

-- the new list has the modules to which stars lead from one, and no others but those that were
-- there; it begins with that one if none were
pub record ExtendsReach (g : Graph) (start : ℕ) (old new : List ℕ) : Type 0 where
  pub first : old ≡ [] → slice_get new 0 ≡ Some start
  pub no_more : (k : ℕ) → IsIn new k → IsIn old k ⊎ Reaches (Starring g) start k
  pub all : (k : ℕ) → Reaches (Starring g) start k → IsIn new k

-- so many of the modules that were there or were met are done
pub record Reaching (g : Graph) (start : ℕ) (old list : List ℕ) (done : ℕ) : Type 0 where
  pub first : old ≡ [] → slice_get list 0 ≡ Some start
  pub begun : IsIn list start
  pub no_more : (k : ℕ) → IsIn list k → IsIn old k ⊎ Reaches (Starring g) start k
  pub past : (i k : ℕ) →
      i < done →
      slice_get list i ≡ Some k →
      (d : ℕ) →
      Starring g k d →
      IsIn list d

-- Names with modules.
abbrev pub HeldNames : Type 0
HeldNames = List (ℕ × List ℕ)

-- a name with its modules
abbrev pub held_entry : ℕ × Vec ℕ Global → ℕ × List ℕ
held_entry e = (e.0, e.1.items)

-- as a program keeps them
abbrev pub names_held : {S : Type 0} → IndexMap ℕ (Vec ℕ Global) S → HeldNames
names_held holders = map held_entry holders.entries

-- the modules of a name
abbrev pub holders_of : HeldNames → ℕ → List ℕ
holders_of held n = unwrap_or (lookup (nat_eq n) held) []

-- one more module of a name
abbrev pub put_name : HeldNames → ℕ → ℕ → HeldNames
put_name [] n m = (n, m ∷ []) ∷ []
put_name ((k, its) ∷ rest) n m =
    if nat_eq n k then (k, its ++ m ∷ []) ∷ rest else (k, its) ∷ put_name rest n m

-- these names of modules are all there
abbrev pub AreHeld : List NameSpot → HeldNames → Type 0
AreHeld spots held = (n m : ℕ) → Contains spots (m, n) → Contains (holders_of held n) m

-- each module with an own entry of a name is there
abbrev pub AreAllHeld : Graph → HeldNames → Type 0
AreAllHeld g held = (n m : ℕ) → HasOwn g n m → Contains (holders_of held n) m

-- which of these modules stand in the list: none, one alone, or perhaps more
abbrev pub TellsAmong : List ℕ → List ℕ → Candidates → Type 0
TellsAmong these list Missing = (k : ℕ) → Contains these k → IsIn list k → ⊥
TellsAmong these list (One h) = IsIn list h × ((k : ℕ) → Contains these k → IsIn list k → k ≡ h)
TellsAmong these list (Two a b) = Unit {0}

-- which modules of the list have an own entry of a name: none, one alone, or perhaps more
abbrev pub TellsHolder : Graph → List ℕ → ℕ → Candidates → Type 0
TellsHolder g list n Missing = (k : ℕ) → IsIn list k → HasOwn g n k → ⊥
TellsHolder g list n (One h) = IsIn list h × ((k : ℕ) → IsIn list k → HasOwn g n k → k ≡ h)
TellsHolder g list n (Two a b) = Unit {0}

-- what b gives a gives, and the other way
pub record SameGiven (g : Graph) (a b : NameSpot) : Type 0 where
  pub from : (v : ℕ) → Given g b v → Given g a v
  pub onto : (v : ℕ) → Given g a v → Given g b v

-- where a name leads
abbrev pub LeadsAlone : Graph → NameSpot → Onward → Type 0
LeadsAlone g at (To other) = SameGiven g at other
LeadsAlone g at Nothing = (v : ℕ) → Given g at v → ⊥
LeadsAlone g at Apart = Unit {0}

-- the next name, for which the same is given, or the answer
abbrev pub TellsStep : Graph → NameSpot → LineStep → Type 0
TellsStep g at (On next) = SameGiven g at next
TellsStep g at (Done answer) = IsCandidates g at answer

-- the same is given for the names that were met as for the one that comes next
pub record InLine (g : Graph) (at : NameSpot) (line : List NameSpot) (end : NameSpot) : Type 0 where
  pub start : SameGiven g at end
  pub each : (other : NameSpot) → IsIn line other → SameGiven g other end

-- the answer is right for a name and for those that were met
pub record AnswersAll (g : Graph) (at : NameSpot) (line : List NameSpot)
    (answer : Candidates) : Type 0 where
  pub start : IsCandidates g at answer
  pub each : (other : NameSpot) → IsIn line other → IsCandidates g other answer

-- the answers that are noted are right, and so is the list of those to which stars lead
pub record IsReady (g : Graph) (answers : List (NameSpot × Candidates))
    (reach : NotedReach) : Type 0 where
  pub right : AreAnswersRight g answers
  pub noted : IsReachNoted g reach
