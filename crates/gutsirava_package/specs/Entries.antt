-- Which entry of `exports` or `imports` a name has, and what that gives:
-- PACKAGE_IMPORTS_EXPORTS_RESOLVE and PACKAGE_TARGET_RESOLVE of Node's documentation.
use Rattle.std.specs.Prelude.{◌≡◌, ◌-◌, ◌==◌, ◌&&◌, ◌⊎◌, ℕ, Bool, true, false, List, [], ◌∷◌, Option, Some, None, not, length, option_map, slice_get, slice_index, string_bytes, vec_len, if◌then◌else◌}
use Rattle.std.specs.List.{flat_map, list_any}
use Rattle.gutsirava_path.specs.declared.specifier.Loader.{Loader}
use Rattle.gutsirava_path.specs.declared.specifier.Loader.TheVariants.{EcmaScript, CommonJs}
use Rattle.gutsirava_package.specs.Located.{is_inner}
use Rattle.gutsirava_package.specs.Patterns.{IsBest, IsKey, NoneFits, is_star}
use Rattle.gutsirava_package.specs.declared.entries.EntryList.{EntryList}
use Rattle.gutsirava_package.specs.declared.entries.EntryMatch.{EntryMatch}
use Rattle.gutsirava_package.specs.declared.entries.LoaderTargets.{LoaderTargets}
use Rattle.gutsirava_package.specs.declared.lookup.Located.{Located}
use Rattle.gutsirava_package.specs.declared.lookup.Located.TheVariants.{Inside, Bare}
use Rattle.gutsirava_package.specs.declared.patterns.PatternMatch.{PatternMatch}
use Rattle.gutsirava_package.specs.declared.target.SettledTarget.{SettledTarget}
use Rattle.gutsirava_package.specs.declared.target.TargetOutcome.{TargetOutcome}
use Rattle.gutsirava_package.specs.declared.target.TargetOutcome.TheVariants as outcome

-- whether an entry with this very key counts: it neither ends in `/` nor has a `*`
abbrev pub may_be_key : List ℕ → Bool
may_be_key name = not (slice_index name (length name - 1) == 47) && not (list_any is_star name)

-- no entry with this very key counts, or is there
abbrev pub HasNoOwn : List (List ℕ) → List ℕ → Type 0
HasNoOwn keys name = may_be_key name ≡ true → IsKey keys name → ⊥

-- an entry with this very key counts, and stands there
abbrev pub IsOwn : List (List ℕ) → List ℕ → ℕ → Type 0
IsOwn keys name place = (may_be_key name ≡ true) × (slice_get keys place ≡ Some name)

-- the entry with this very key; where none counts, that of the pattern that fits best
abbrev pub IsEntryOf : List (List ℕ) → List ℕ → EntryMatch → Type 0
IsEntryOf keys name found =
    (IsOwn keys name found.place × (found.star ≡ None))
    ⊎ ((best : PatternMatch) × HasNoOwn keys name × IsBest keys name best
    × (found.place ≡ best.place) × (found.star ≡ Some best.star))

abbrev pub HasNoEntry : List (List ℕ) → List ℕ → Type 0
HasNoEntry keys name = HasNoOwn keys name × NoneFits keys name

-- a text with this in place of each `*`
abbrev pub with_star : Option (List ℕ) → List ℕ → List ℕ
with_star None text = text
with_star (Some star) text = flat_map (λ byte. if is_star byte then star else byte ∷ []) text

-- whether it is an address in the package, and its text
abbrev pub shown : Located → Bool × List ℕ
shown (Inside address) = (true, string_bytes address)
shown (Bare specifier) = (false, string_bytes specifier)

abbrev pub given_by : TargetOutcome → List ℕ → Option (List ℕ) → Option (Option (Bool × List ℕ))
given_by outcome.Text text star = Some (Some (is_inner text, with_star star text))
given_by outcome.Null text star = Some None
given_by outcome.Nothing text star = Some None
given_by outcome.Invalid text star = None
given_by outcome.Numeric text star = None

-- what a target gives where the `*` of its key stands for this: an address or a specifier, nothing,
-- or (`None`) an error
abbrev pub given : SettledTarget → Option (List ℕ) → Option (Option (Bool × List ℕ))
given target star = given_by target.outcome (string_bytes target.text) star

abbrev pub target_for : Loader → LoaderTargets → SettledTarget
target_for EcmaScript targets = targets.import
target_for CommonJs targets = targets.require

-- each key has its targets
abbrev pub IsAligned : EntryList → Type 0
IsAligned entries = vec_len entries.targets ≡ length entries.keys

-- the entry of a name gives this
pub record EntryGives (entries : EntryList) (name : List ℕ) (loader : Loader)
    (located : Option Located) : Type 0 where
  pub found : EntryMatch
  pub targets : LoaderTargets
  pub is_entry : IsEntryOf entries.keys name found
  pub targets_at : slice_get entries.targets.items found.place ≡ Some targets
  pub gives : given (target_for loader targets) (option_map (λ star. star.now) found.star)
      ≡ Some (option_map shown located)

-- what the entries give for a name: what its entry does, or nothing where it has none
abbrev pub IsFoundIn : EntryList → List ℕ → Loader → Option Located → Type 0
IsFoundIn entries name loader located =
    EntryGives entries name loader located
    ⊎ (HasNoEntry entries.keys name × (located ≡ None))
