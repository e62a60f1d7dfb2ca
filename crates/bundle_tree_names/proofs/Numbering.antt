-- A set of file names, read as the list of what they say.
use Rattle.std.proofs.Common.{◌≡◌, ℕ, ◌+◌, ◌<◌, Bool, true, false, ◌||◌, List, [], ◌∷◌, ◌++◌, length, slice_get, position, Some, Contains, refl, sym, ap, subst, ◌∙◌, if◌then◌else◌}
use Rattle.std.specs.List.{list_any}
use Rattle.std.proofs.lemmas.Option.{slice_get-get_or}
use Rattle.std.proofs.lemmas.List.{map_push, get_or-map, length-map, length-append}
use Rattle.std.proofs.lemmas.List.Quantifiers.{position-Some}
use Rattle.std.proofs.lemmas.Map.Views.{list_any-from_Contains, Contains-from_any}
use Rattle.indexmap.specs.IndexSet.{insert_key}
use Rattle.bundle_tree_names.specs.FileName.{Name, name_of, name_eq}
use Rattle.bundle_tree_names.specs.FileNameLaws.{name_eq-Decides, name_eq_equiv}
use Rattle.bundle_tree_names.specs.ModuleIdGenerator.{IsDistinct, names_of}
use Rattle.bundle_tree_names.specs.declared.file_name.FileName.{FileName}
use Rattle.bundle_tree_names.proofs.Names.{IsDistinct-push}

-- `==` of file names
abbrev pub file_eq : FileName → FileName → Bool
file_eq a b = name_eq (name_of a) (name_of b)

list_any-names_of : (files : List FileName) (name : Name) → list_any (λ x. name_eq name (name_of x)) files ≡ list_any (name_eq name) (names_of files)
list_any-names_of [] name = refl
list_any-names_of (x ∷ xs) name = ap (λ b. name_eq name (name_of x) || b) (list_any-names_of xs name)

module _ (files : List FileName) (file : FileName) where
  -- a file that a look-up finds has its name in the list
  pub Contains-from_file : list_any (file_eq file) files ≡ true → Contains (names_of files) (name_of file)
  Contains-from_file e =
      Contains-from_any (λ a b. (name_eq-Decides a b).0) (name_of file) (names_of files) (sym (list_any-names_of files (name_of file)) ∙ e)

  -- and the way back
  pub file-from_Contains : Contains (names_of files) (name_of file) → list_any (file_eq file) files ≡ true
  file-from_Contains h = list_any-names_of files (name_of file) ∙ list_any-from_Contains name_eq_equiv (name_of file) (names_of files) h

  -- the place that a look-up finds has the name
  pub slice_get-position : (i : ℕ) → position (file_eq file) files ≡ Some i → slice_get (names_of files) i ≡ Some (name_of file)
  slice_get-position i e =
      let at = position-Some (file_eq file) files i file e in
      let within : i < length (names_of files) = subst (λ n. i < n) (sym (length-map files name_of)) at.0 in
      slice_get-get_or (names_of files) i (name_of file) within
      ∙ ap Some (get_or-map name_of files i file (name_of file) at.0 ∙ sym ((name_eq-Decides _ _).0 at.1))

-- what a set of files with one more is
pub record IsLonger (files : List FileName) (file : FileName) (keys : List FileName) : Type 0 where
  pub names : names_of keys ≡ names_of files ++ name_of file ∷ []
  pub distinct : IsDistinct (names_of keys)
  pub len : length keys ≡ length files + 1

-- a new name goes last
pub insert_key-IsLonger : (files : List FileName) (file copy : FileName) (keys : List FileName) → IsDistinct (names_of files) → (Contains (names_of files) (name_of file) → ⊥) → name_of copy ≡ name_of file
    → keys ≡ insert_key file_eq files copy → IsLonger files file keys
insert_key-IsLonger files file copy keys distinct absent same is = by (list_any (file_eq copy) files) refl
  where
    by : (b : Bool) → list_any (file_eq copy) files ≡ b → IsLonger files file keys
    by true e = absurd (absent (subst (Contains (names_of files)) same (Contains-from_file files copy e)))
    by false e =
        let keys_are : keys ≡ files ++ copy ∷ [] = is ∙ ap (λ b. if b then files else files ++ copy ∷ []) e in
        let names_are : names_of keys ≡ names_of files ++ name_of file ∷ [] =
        ap names_of keys_are ∙ map_push name_of files copy ∙ ap (λ n. names_of files ++ n ∷ []) same in
        record {
          names = names_are;
          distinct = subst IsDistinct (sym names_are) (IsDistinct-push (names_of files) (name_of file) distinct absent);
          len = ap length keys_are ∙ length-append files (copy ∷ []);
        }
