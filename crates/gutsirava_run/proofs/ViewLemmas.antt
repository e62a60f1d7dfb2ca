-- Files with others behind them.
use Rattle.std.proofs.Common.{◌≡◌, ℕ, List, [], ◌∷◌, ◌++◌, map, refl, sym, ◌∙◌, ap, append_assoc, append-nil}
use Rattle.std.proofs.lemmas.List.{map-append}
use Rattle.gutsirava_run.specs.Delivery.{AddsFiles, StoredFile, stored_file}
use Rattle.gutsirava_run.specs.declared.store.OutputFile.{OutputFile}

pub adds_nothing : (files : List StoredFile) → AddsFiles [] files files
adds_nothing files = record { added = []; whole = sym (append-nil files); named = refl }

-- a file more, behind files
pub adds_file : (old new : List OutputFile) (file : OutputFile) → new ≡ old ++ file ∷ []
    → AddsFiles ((stored_file file).path ∷ []) (map stored_file old) (map stored_file new)
adds_file old new file is = record {
  added = stored_file file ∷ [];
  whole = ap (map stored_file) is ∙ map-append stored_file old (file ∷ []);
  named = refl;
}

-- the ones and then the others
pub adds_both : (paths others : List (List ℕ)) (old between new : List StoredFile)
    → AddsFiles paths old between → AddsFiles others between new → AddsFiles (paths ++ others) old new
adds_both paths others old between new first second = record {
  added = first.added ++ second.added;
  whole = second.whole ∙ ap (λ l. l ++ second.added) first.whole ∙ append_assoc old first.added second.added;
  named = map-append (λ (file : StoredFile). file.path) first.added second.added
      ∙ ap (λ l. l ++ map (λ (file : StoredFile). file.path) second.added) first.named
      ∙ ap (λ l. paths ++ l) second.named;
}
