-- What is told of the items of bundles is told of one after the other, and explains each once it is finished.
use Rattle.std.proofs.Common.{◌≡◌, ℕ, suc, zero, List, [], ◌∷◌, ◌++◌, Some, length, map, slice_get, refl, sym, ap, subst, ◌∙◌, append-nil, append_assoc, Result, Ok, Err}
use Rattle.std.specs.Prelude.{IfErr, IfOk}
use Rattle.std.specs.List.{AllZip}
use Rattle.std.specs.Result.{IsErrAnd}
use Rattle.std.specs.declared.alloc.Global.{Global}
use Rattle.std.specs.declared.string.String.{String}
use Rattle.std.specs.declared.vec.Vec.{Vec}
use Rattle.std.proofs.lemmas.Option.{same_Some}
use Rattle.bundle_tree_names.specs.declared.error.Error.{Error}
use Rattle.bundle_tree_names.specs.declared.file_name.FileName.{FileName}
use Rattle.bundle_rules.specs.Bundle.{IsBundle, form_of}
use Rattle.bundle_rules.specs.Entries.{Settings}
use Rattle.bundle_rules.specs.Faults.{Parties}
use Rattle.bundle_rules.specs.Headline.{IsHeadline, reading_of}
use Rattle.bundle_rules.specs.Judging.{Entry, Grows, IsProgramOf}
use Rattle.bundle_rules.specs.Kept.{Kept, program_of}
use Rattle.bundle_rules.specs.Program.{Program}
use Rattle.bundle_merge_causes.specs.Standing.{AreCausesTold, IsExplained}
use Rattle.bundle_merge_causes.specs.declared.cause.BundleCauses.{BundleCauses}
use Rattle.bundle_merge_causes.proofs.Standing.{explained}
use Rattle.bundler_call.specs.Answer.{bundled_of}
use Rattle.bundler_call.specs.Bundler.{entry_files, HasFileNumber}
use Rattle.bundler_call.specs.Caused.{answer_beside, AreCausesToldFor, AreExplained}
use Rattle.bundler_call.specs.Judged.{IsBundledFor}
use Rattle.bundler_call.specs.Kept.{entry_of}
use Rattle.bundler_call.specs.declared.bundle.Bundle.{Bundle}
use Rattle.bundler_call.proofs.Leading.{refused_headline, IsRefusedBy}
use Rattle.bundler_call.proofs.Sources.{one_program}

-- ---- one after the other
module _ (settings : Settings) (kept : Kept) where
  -- these are told so far, of entries of which these are left
  abbrev pub AreToldSoFar : (entries rest : List (String Global × FileName)) → List BundleCauses → Type 0
  AreToldSoFar entries rest told =
      (more : List BundleCauses) → AllZip (AreCausesToldFor settings kept) rest more →
      AllZip (AreCausesToldFor settings kept) entries (told ++ more)

  -- where none is left, all are told
  pub told_all : (entries rest : List (String Global × FileName)) (told : List BundleCauses) →
      rest ≡ [] → AreToldSoFar entries rest told →
      AllZip (AreCausesToldFor settings kept) entries told
  told_all entries rest told none so_far =
      subst (λ xs. AllZip (AreCausesToldFor settings kept) entries xs) (append-nil told)
      (so_far [] (subst (λ xs. AllZip (AreCausesToldFor settings kept) xs []) (sym none) tt))

  -- one more
  pub told_more : (entries rest left : List (String Global × FileName))
      (entry : String Global × FileName) (id : ℕ) (told made : List BundleCauses)
      (causes : BundleCauses) → rest ≡ entry ∷ left → made ≡ told ++ causes ∷ [] →
      HasFileNumber kept entry id → AreCausesTold (program_of kept settings id) causes →
      AreToldSoFar entries rest told → AreToldSoFar entries left made
  told_more entries rest left entry id told made causes is_rest is_made number its so_far = λ more are.
      let here : AreCausesToldFor settings kept entry causes = λ p is.
      subst (λ q. AreCausesTold q causes) (sym (is.is ∙ ap (program_of kept settings) (same_Some is.number id (sym is.its_number ∙ number)))) its in
      subst (λ xs. AllZip (AreCausesToldFor settings kept) entries (xs ++ more)) (sym is_made)
      (subst (λ xs. AllZip (AreCausesToldFor settings kept) entries xs)
      (sym (append_assoc told (causes ∷ []) more))
      (so_far (causes ∷ more)
      (subst (λ xs. AllZip (AreCausesToldFor settings kept) xs (causes ∷ more)) (sym is_rest) (here, are))))

-- ---- finished
module _ (parties : Parties) (settings : Settings) (kept : Kept) where
  -- what is told of an entry explains its bundle
  explains : (entry : String Global × FileName) (bundle : Bundle) (told : BundleCauses) (p : Program) →
      IsBundledFor parties settings kept entry bundle → AreCausesToldFor settings kept entry told →
      IsProgramOf kept settings (entry_of entry) p →
      IsExplained p parties.hooks (bundled_of bundle).tree told
  explains entry bundle told p its causes is =
      let same : its.p ≡ p =
      one_program kept settings parties (entry_of entry) its.p p its.its_program is in
      let asked : its.p.settings ≡ settings = ap (λ (q : Program). q.settings) its.its_program.is in
      subst (λ q. IsExplained q parties.hooks (bundled_of bundle).tree told) same
      (explained its.p parties.hooks (bundled_of bundle).tree told (causes its.p its.its_program)
      (subst (λ s. IsBundle its.p parties.hooks (form_of s) (reading_of s) (bundled_of bundle).tree) (sym asked) its.is_bundle))

  as_many : (entries : List (String Global × FileName)) (bundles : List Bundle) (all : List BundleCauses) →
      AllZip (IsBundledFor parties settings kept) entries bundles →
      AllZip (AreCausesToldFor settings kept) entries all → length all ≡ length bundles
  as_many [] [] [] are told = refl
  as_many [] [] (causes ∷ all) are told = absurd told
  as_many [] (bundle ∷ bundles) all are told = absurd are
  as_many (entry ∷ entries) [] all are told = absurd are
  as_many (entry ∷ entries) (bundle ∷ bundles) [] are told = absurd told
  as_many (entry ∷ entries) (bundle ∷ bundles) (causes ∷ all) are told =
      ap suc (as_many entries bundles all are.1 told.1)

  each_explained : (entries : List (String Global × FileName)) (bundles : List Bundle)
      (all : List BundleCauses) → AllZip (IsBundledFor parties settings kept) entries bundles →
      AllZip (AreCausesToldFor settings kept) entries all →
      (i : ℕ) (entry : Entry) (bundle : Bundle) (told : BundleCauses) (p : Program) →
      slice_get (map entry_of entries) i ≡ Some entry →
      slice_get bundles i ≡ Some bundle →
      slice_get all i ≡ Some told →
      IsProgramOf kept settings entry p →
      IsExplained p parties.hooks (bundled_of bundle).tree told
  each_explained [] bundles all are told i entry bundle causes p at there found is = cc
  each_explained (e ∷ entries) [] all are told i entry bundle causes p at there found is = absurd are
  each_explained (e ∷ entries) (b ∷ bundles) [] are told i entry bundle causes p at there found is = absurd told
  each_explained (e ∷ entries) (b ∷ bundles) (c ∷ all) are told zero entry bundle causes p at there found is =
      subst (λ x. IsExplained p parties.hooks (bundled_of x).tree causes) (same_Some b bundle there)
      (subst (λ x. IsExplained p parties.hooks (bundled_of b).tree x) (same_Some c causes found)
      (explains e b c p are.0 told.0
      (subst (λ x. IsProgramOf kept settings x p) (sym (same_Some (entry_of e) entry at)) is)))
  each_explained (e ∷ entries) (b ∷ bundles) (c ∷ all) are told (suc i) entry bundle causes p at there found is =
      each_explained entries bundles all are.1 told.1 i entry bundle causes p at there found is

  -- what is told of all entries explains all bundles
  pub all_explained : (entries : List (String Global × FileName)) (bundles : List Bundle)
      (all : List BundleCauses) → AllZip (IsBundledFor parties settings kept) entries bundles →
      AllZip (AreCausesToldFor settings kept) entries all →
      AreExplained parties settings kept (map entry_of entries) bundles all
  all_explained entries bundles all are told = record {
    long = as_many entries bundles all are told;
    each = each_explained entries bundles all are told;
  }

  -- no entry
  pub none_explained : (entries : List (String Global × FileName)) (bundles : List Bundle)
      (all : List BundleCauses) → entries ≡ [] → bundles ≡ [] → all ≡ [] →
      AreExplained parties settings kept (map entry_of entries) bundles all
  none_explained entries bundles all none made told =
      all_explained entries bundles all
      (subst (λ xs. AllZip (IsBundledFor parties settings kept) xs bundles) (sym none) (subst (λ xs. AllZip (IsBundledFor parties settings kept) [] xs) (sym made) tt))
      (subst (λ xs. AllZip (AreCausesToldFor settings kept) xs all) (sym none) (subst (λ xs. AllZip (AreCausesToldFor settings kept) [] xs) (sym told) tt))

-- a refusal is answered as without causes
pub refused_beside_causes : (parties : Parties) (settings : Settings)
    (entries : List (String Global × FileName)) (old new : Kept)
    (result : Result (Vec Bundle Global × Vec BundleCauses Global) Error) (e : Error) →
    IsErrAnd result (λ x. x ≡ e) → Grows parties.answers settings (entry_files entries) old new →
    IfErr result (IsRefusedBy parties settings (map entry_of entries) old new) →
    IsHeadline parties settings (map entry_of entries) old (answer_beside result) new
refused_beside_causes parties settings entries old new (Ok made) e is grows why = absurd is
refused_beside_causes parties settings entries old new (Err refusal) e is grows why =
    refused_headline parties settings entries old new (Err refusal) e is grows why

-- nothing is told beside a refusal
pub untold : {T : Type 0} (result : Result T Error) (e : Error) (P : T → Type 0) →
    IsErrAnd result (λ x. x ≡ e) → IfOk result P
untold (Ok made) e P is = absurd is
untold (Err refusal) e P is = tt
