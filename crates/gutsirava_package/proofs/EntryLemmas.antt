-- What entries give.
use Rattle.std.proofs.Common.{◌≡◌, ◌∙◌, inl, ℕ, List, None, Option, Some, ap, refl, slice_get, sym}
use Rattle.std.specs.Option.{option_map}
use Rattle.std.proofs.lemmas.Option.{none-some, same_Some}
use Rattle.gutsirava_path.specs.declared.specifier.Loader.{Loader}
use Rattle.gutsirava_package.specs.Entries.{IsEntryOf, IsFoundIn, given, shown, target_for}
use Rattle.gutsirava_package.specs.declared.entries.EntryList.{EntryList}
use Rattle.gutsirava_package.specs.declared.entries.EntryMatch.{EntryMatch}
use Rattle.gutsirava_package.specs.declared.entries.LoaderTargets.{LoaderTargets}
use Rattle.gutsirava_package.specs.declared.lookup.Located.{Located}
use Rattle.gutsirava_package.specs.declared.target.SettledTarget.{SettledTarget}

-- what the target of an entry gives is what the entries do
pub entry-gives : (entries : EntryList) (name : List ℕ) (loader : Loader) (found : EntryMatch) (target : SettledTarget) (located : Option Located) → IsEntryOf entries.keys name found
    → Some target ≡ option_map (target_for loader) (slice_get entries.targets.items found.place)
    → given target (option_map (λ star. star.now) found.star) ≡ Some (option_map shown located) → IsFoundIn entries name loader located
entry-gives entries name loader found target located is there gives = by (slice_get entries.targets.items found.place) refl there
  where
    by : (o : Option LoaderTargets) → slice_get entries.targets.items found.place ≡ o → Some target ≡ option_map (target_for loader) o → IsFoundIn entries name loader located
    by None at never = absurd (none-some target (sym never))
    by (Some targets) at same = inl (record {
      found = found;
      targets = targets;
      is_entry = is;
      targets_at = at;
      gives = sym (ap (λ t. given t (option_map (λ star. star.now) found.star)) (same_Some target (target_for loader targets) same)) ∙ gives;
    })
