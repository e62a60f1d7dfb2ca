-- One entry more.
use Rattle.std.proofs.Common.{◌≡◌, sym, subst, ◌<◌, ◌+◌, ◌++◌, ℕ, List, [], ◌∷◌, length, take, get_or}
use Rattle.std.proofs.lemmas.List.{take_more}
use Rattle.std.specs.List.{AllZip}
use Rattle.gutsirava_words.specs.declared.options.EntryPoint.{EntryPoint}
use Rattle.gutsirava_graph.specs.declared.settings.BundleEntry.{BundleEntry}
use Rattle.gutsirava_run.specs.Making.{IsNamed}

all_zip_push : {A B : Type 0} (R : A → B → Type 0) (xs : List A) (ys : List B) (x : A) (y : B)
    → AllZip R xs ys → R x y → AllZip R (xs ++ x ∷ []) (ys ++ y ∷ [])
all_zip_push R [] [] x y all here = (here, tt)
all_zip_push R [] (b ∷ ys) x y all here = absurd all
all_zip_push R (a ∷ xs) [] x y all here = absurd all
all_zip_push R (a ∷ xs) (b ∷ ys) x y all here = (all.0, all_zip_push R xs ys x y all.1 here)

pub named_more : (is_real : List ℕ → List ℕ → Type 0) (folder : List ℕ) (begins : List EntryPoint) (entries : List BundleEntry) (i : ℕ) (begin : EntryPoint) (entry : BundleEntry) → i < length begins
    → begin ≡ get_or begins i begin → AllZip (IsNamed is_real folder) (take i begins) entries → IsNamed is_real folder begin entry
    → AllZip (IsNamed is_real folder) (take (i + 1) begins) (entries ++ entry ∷ [])
named_more is_real folder begins entries i begin entry below is all named =
    let P : List EntryPoint → Type 0 = λ xs. AllZip (IsNamed is_real folder) xs (entries ++ entry ∷ []) in
    let Q : EntryPoint → Type 0 = λ x. AllZip (IsNamed is_real folder) (take i begins ++ x ∷ []) (entries ++ entry ∷ []) in
    subst P (sym (take_more begins i begin below)) (subst Q is (all_zip_push (IsNamed is_real folder) (take i begins) entries begin entry all named))
