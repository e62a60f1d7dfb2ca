-- What becomes of an identifier.
use Rattle.std.proofs.Common.{◌≡◌, List, [], ◌∷◌, Some, None, drop, refl, ap, ◌∙◌, string_bytes, unwrap_or, option_map, slice_get, Result, Ok, Err, IfOk}
use Rattle.bundle_syntax.specs.declared.ident.Ident as v_ident
use Rattle.bundle_syntax.specs.declared.piece.Role.TheVariants as r
use Rattle.bundle_syntax.specs.Item as h
use Rattle.bundle_tree_places.specs.Edits.{Anywhere, renamed}
use Rattle.bundle_tree_rename.specs.declared.new_name.NewName as r_new_name
use Rattle.bundle_tree_rename.specs.Naming.{Naming, naming_of, change_at, next}
use Rattle.bundle_tree_rename.specs.Parts.{option_ident_items}
use Rattle.bundle_tree_rename.specs.Renamed.{Renamed, Takes}
use Rattle.bundle_tree_rename.specs.Renames.{Nothing}
use Rattle.bundle_tree_rename.proofs.Lists.{named}

-- it gets the next name
takes_it : {names rest : List Naming} {old new : v_ident.Ident} (naming : Naming) → Some naming ≡ slice_get names 0 → rest ≡ drop 1 names → string_bytes new.sym ≡ unwrap_or naming.sym (string_bytes old.sym) → new.ctxt ≡ unwrap_or naming.ctxt old.ctxt → Takes names old new rest
takes_it {old = old} {new = new} naming is rest text ctxt = record {
  renamed_is = λ field role.
      ap (λ x. h.Ident field x new.ctxt role ∷ []) text
      ∙ ap (λ n. h.Ident field (unwrap_or naming.sym (string_bytes old.sym)) n role ∷ []) ctxt
      ∙ ap (λ found. renamed (option_map (change_at (string_bytes old.sym, old.ctxt)) found) field (string_bytes old.sym) old.ctxt role ∷ []) is;
  rest_is = rest;
}

pub takes_name : {T E : Type 0} (names rest : List Naming) (old new : v_ident.Ident) (name : r_new_name.NewName) (result : Result T E) → Some (naming_of name) ≡ slice_get names 0 → rest ≡ drop 1 names → IfOk result (λ done. string_bytes new.sym ≡ unwrap_or (naming_of name).sym (string_bytes old.sym)) → IfOk result (λ done. new.ctxt ≡ unwrap_or (naming_of name).ctxt old.ctxt) → IfOk result (λ done. Takes names old new rest)
takes_name names rest old new name (Ok done) is left text ctxt = takes_it (naming_of name) is left text ctxt
takes_name names rest old new name (Err error) is left text ctxt = text

-- where no name is left, it stays
pub takes_none : {names rest : List Naming} {it : v_ident.Ident} → None ≡ slice_get names 0 → rest ≡ drop 1 names → Takes names it it rest
takes_none {it = it} is rest = record {
  renamed_is = λ field role. ap (λ found. renamed (option_map (change_at (string_bytes it.sym, it.ctxt)) found) field (string_bytes it.sym) it.ctxt role ∷ []) is;
  rest_is = rest;
}

-- an identifier, where one stands
pub option_ident-None : {names : List Naming} → Renamed Anywhere option_ident_items names None None names
option_ident-None = record { in_field = λ field. Nothing }

pub option_ident-Some : {names rest : List Naming} {old new : v_ident.Ident} → Takes names old new rest → Renamed Anywhere option_ident_items names (Some old) (Some new) rest
option_ident-Some taken = record { in_field = λ field. (named taken r.Binding refl).in_field field }

-- an identifier that is written alike gets it too
pub takes_alike : {names rest : List Naming} {old other new : v_ident.Ident} → string_bytes other.sym ≡ string_bytes old.sym → other.ctxt ≡ old.ctxt → Takes names other new rest → Takes names old new rest
takes_alike {names = names} {old = old} {other = other} text ctxt taken = record {
  renamed_is = λ field role.
      taken.renamed_is field role
      ∙ ap (λ x. renamed (next names x other.ctxt) field x other.ctxt role ∷ []) text
      ∙ ap (λ n. renamed (next names (string_bytes old.sym) n) field (string_bytes old.sym) n role ∷ []) ctxt;
  rest_is = taken.rest_is;
}
