-- What settings say.
use Rattle.std.specs.Prelude.{◌≡◌, ℕ, Bool, List, [], map, string_bytes}
use Rattle.gutsirava_resolve.specs.Externals.{names_of, paths_of}
use Rattle.gutsirava_resolve.specs.declared.settings.MainField.{MainField}
use Rattle.gutsirava_resolve.specs.declared.settings.Settings.{Settings}

-- for a browser or not, with imports completed or not, and nothing external
pub record AreFlags (is_browser completes : Bool) (it : Settings) : Type 0 where
  pub uses_map : it.uses_browser_map ≡ is_browser
  pub prefers : it.prefers_packages ≡ is_browser
  pub imports : it.completes_imports ≡ completes
  pub no_names : names_of it.externals ≡ []
  pub no_paths : paths_of it.externals ≡ []

-- the conditions of both loaders, the main fields and the endings
pub record IsFor (imports requires : List (List ℕ)) (fields : List MainField)
    (endings : List (List ℕ)) (it : Settings) : Type 0 where
  pub import_is : map string_bytes it.import_conditions.items ≡ imports
  pub require_is : map string_bytes it.require_conditions.items ≡ requires
  pub fields_are : it.main_fields.items ≡ fields
  pub endings_are : map string_bytes it.extensions.items ≡ endings
