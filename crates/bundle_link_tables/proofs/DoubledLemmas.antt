-- Doubled names, export by export.
use Rattle.std.proofs.Common.{◌≡◌, ℕ, ◌+◌, ◌<◌, Bool, true, false, List, [], ◌∷◌, ◌++◌, Option, Some, None, length, map, drop, get_or, refl, ap, sym, ◌∙◌, arith}
use Rattle.std.specs.Prelude.{if◌then◌else◌}
use Rattle.std.proofs.lemmas.List.{drop_more}
use Rattle.std.proofs.lemmas.Option.{none-some}
use Rattle.bundle_rules.specs.Nodes.{Text, has_text}
use Rattle.bundle_rules.specs.Entries.{ExportEntry}
use Rattle.bundle_link_tables.specs.declared.table.Export.{Export}
use Rattle.bundle_link_tables.specs.declared.table.Origin.{Origin}
use Rattle.bundle_link_tables.specs.declared.table.Origin.TheVariants as o
use Rattle.bundle_link_tables.specs.Judged.{doubled_entry_name}
use Rattle.bundle_link_tables.specs.TablesOf.{entry_by_origin, export_entry_of}

-- an export has its name
doubled_step : (met : List Text) (export : Export) (rest : List ExportEntry) → doubled_entry_name met (export_entry_of export ∷ rest) ≡ (if has_text export.name.now met then Some export.name.now else doubled_entry_name (met ++ export.name.now ∷ []) rest)
doubled_step met export rest = by (export.origin)
  where
    by : (origin : Origin) → doubled_entry_name met (entry_by_origin export.name.now origin ∷ rest) ≡ (if has_text export.name.now met then Some export.name.now else doubled_entry_name (met ++ export.name.now ∷ []) rest)
    by (o.Local of) = refl
    by (o.Indirect specifier taken) = refl

pub doubled_split : (met : List Text) (exports : List Export) (i : ℕ) (d : Export) → i < length exports → doubled_entry_name met (map export_entry_of (drop i exports)) ≡ (if has_text (get_or exports i d).name.now met then Some (get_or exports i d).name.now else doubled_entry_name (met ++ (get_or exports i d).name.now ∷ []) (map export_entry_of (drop (i + 1) exports)))
doubled_split met exports i d inside =
    ap (λ l. doubled_entry_name met (map export_entry_of l)) (drop_more exports i d inside) ∙ doubled_step met (get_or exports i d) (map export_entry_of (drop (i + 1) exports))

-- where none is doubled, the next was not met, and none is doubled behind it
pub undoubled_next : (met : List Text) (exports : List Export) (i : ℕ) (d : Export) → i < length exports → doubled_entry_name met (map export_entry_of (drop i exports)) ≡ None → (has_text (get_or exports i d).name.now met ≡ false) × (doubled_entry_name (met ++ (get_or exports i d).name.now ∷ []) (map export_entry_of (drop (i + 1) exports)) ≡ None)
undoubled_next met exports i d inside none = by (has_text name met) refl (sym (doubled_split met exports i d inside) ∙ none)
  where
    name : Text
    name = (get_or exports i d).name.now

    later : Option Text
    later = doubled_entry_name (met ++ name ∷ []) (map export_entry_of (drop (i + 1) exports))

    by : (b : Bool) → has_text name met ≡ b → (if b then Some name else later) ≡ None → (has_text name met ≡ false) × (later ≡ None)
    by true is one = absurd (none-some name (sym one))
    by false is one = (is, one)

-- of one export, or none, no name is doubled
pub few_undoubled : (exports : List Export) → length exports < 2 → None ≡ doubled_entry_name [] (map export_entry_of exports)
few_undoubled [] few = refl
few_undoubled (export ∷ []) few = sym (doubled_step [] export [])
few_undoubled (export ∷ other ∷ more) few = absurd (omega (arith, few))
