-- The files of a bundle that leads to its map, or has it in it.
use Rattle.std.proofs.Common.{◌≡◌, ◌∙◌, sym, subst, ap, ◌++◌, ℕ, List, [], ◌∷◌, map, string_bytes}
use Rattle.std.proofs.lemmas.List.{map-append}
use Rattle.gutsirava_maps.specs.Comment.{data_url_of, link_text}
use Rattle.gutsirava_path.specs.Places.{file_name}
use Rattle.gutsirava_words.specs.declared.choice.SourceMap.{SourceMap}
use Rattle.gutsirava_words.specs.declared.choice.SourceMap.TheVariants as maps
use Rattle.gutsirava_run.specs.Delivery.{StoredFile, files_beside, map_path, mapped_files, stored_file}
use Rattle.gutsirava_run.specs.declared.store.OutputFile.{OutputFile}

pub pushed_inline : (source_map : SourceMap) (path text made shown : List ℕ) (old new : List OutputFile) (file : OutputFile)
    → source_map ≡ maps.Inline → new ≡ old ++ file ∷ [] → string_bytes file.path ≡ path
    → string_bytes file.text ≡ text ++ link_text (data_url_of shown) → shown ≡ made
    → map stored_file new ≡ map stored_file old ++ mapped_files source_map path text made
pushed_inline source_map path text made shown old new file is whole there linked same =
    let R : SourceMap → Type 0 = λ it. map stored_file new ≡ map stored_file old ++ mapped_files it path text made in
    let S : List ℕ → List ℕ → StoredFile = λ p b. record { path = p; bytes = b } in
    let stored : stored_file file ≡ S path (text ++ link_text (data_url_of made)) =
    ap (λ p. S p (string_bytes file.text)) there ∙ ap (S path) (linked ∙ ap (λ s. text ++ link_text (data_url_of s)) same) in
    subst R (sym is)
    (ap (map stored_file) whole ∙ map-append stored_file old (file ∷ []) ∙ ap (λ f. map stored_file old ++ f ∷ []) stored)

pub pushed_linked : (source_map : SourceMap) (path text made shown bytes : List ℕ) (old new : List StoredFile)
    → source_map ≡ maps.Linked → new ≡ old ++ files_beside path bytes made
    → bytes ≡ text ++ link_text (map_path (file_name shown)) → shown ≡ path
    → new ≡ old ++ mapped_files source_map path text made
pushed_linked source_map path text made shown bytes old new is whole linked same =
    let R : SourceMap → Type 0 = λ it. new ≡ old ++ mapped_files it path text made in
    subst R (sym is)
    (whole ∙ ap (λ b. old ++ files_beside path b made) (linked ∙ ap (λ s. text ++ link_text (map_path (file_name s))) same))
