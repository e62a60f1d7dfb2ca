-- What a renaming says of an identifier, and the items that it makes.
use Rattle.std.proofs.Common.{Bor, ◌≡◌, ◌==◌, Bool, true, false, not, cond, List, [], ◌∷◌, ◌++◌, Option, Some, None, map, unwrap_or, bytes_eq, refl, ap, ap₂, sym, ◌∙◌, subst, append-nil, append_assoc}
use Rattle.std.specs.BTreeMap.{BTreeMap, Updates, IsClone}
use Rattle.std.specs.List.{AllZip}
use Rattle.std.specs.Map.{lookup}
use Rattle.std.specs.Option.{option_copied, option_map}
use Rattle.std.specs.Ordering.{is_eq}
use Rattle.std.proofs.lemmas.Bool.{and_parts, not-false, or_parts}
use Rattle.std.proofs.lemmas.Slice.Eq.{bytes_eq-Decides}
use Rattle.bundle_rules.specs.Idents.{Ident}
use Rattle.bundle_rules.specs.Rebuilds.{Change, Renaming, change_by, change_then, change_to, followed_by, found, ident_eq, with_pair}
use Rattle.bundle_tree.specs.IdName.{IdName, name_cmp}
use Rattle.bundle_tree.specs.IdNameLaws.{name_cmp-ties, id_name_eq_equiv}
use Rattle.bundle_tree_places.proofs.RenameLemmas.{lookup-map, lookup-same}
use Rattle.bundle_marks.specs.Idents.{ident_named}
use Rattle.bundle_marks.specs.declared.renaming.RenamingStep.{RenamingStep}
use Rattle.bundle_marks.specs.Renamings.{KeepsSymbols, SaySame, change_of_step, renaming_pair}
use Rattle.bundle_marks.specs.Composed.{Compose}
use Rattle.bundle_marks.specs.Composed.{items_list}
use Rattle.bundle_marks.proofs.LawLemmas.{followed-is, renamed_all-same, renamed_all-twice}

-- The map.

-- what is found for an identifier is what the map has for its name
pub lookup-step : (pairs : List (IdName × RenamingStep)) (name : IdName) → lookup (ident_eq (ident_named name)) (map renaming_pair pairs) ≡ option_map change_of_step (lookup (λ key. is_eq (name_cmp name key)) pairs)
lookup-step pairs name =
    lookup-map ident_named change_of_step (ident_eq (ident_named name)) pairs
    ∙ ap (option_map change_of_step) (lookup-same (λ key. ident_eq (ident_named name) (ident_named key)) (λ key. is_eq (name_cmp name key)) (λ key. name_cmp-ties name key) pairs)

-- the name of an identifier
abbrev name_of : Ident → IdName
name_of ident = record { symbol = ident.0; context = ident.1 }

-- a pair that is put in counts first
pub insert-says : (old new : BTreeMap IdName RenamingStep) (from : IdName) (step : RenamingStep) → Updates name_cmp old new from (Some step) → SaySame (map renaming_pair new.entries) ((ident_named from, change_of_step step) ∷ map renaming_pair old.entries)
insert-says old new from step updates = λ ident.
    lookup-step new.entries (name_of ident)
    ∙ ap (option_map change_of_step) (updates.0 (name_of ident))
    ∙ either (is_eq (name_cmp from (name_of ident))) (lookup (λ key. is_eq (name_cmp (name_of ident) key)) old.entries)
    ∙ ap₂ (λ (b : Bool) (found : Option Change). cond b (Some (change_of_step step)) found) (sym (name_cmp-ties from (name_of ident)) ∙ id_name_eq_equiv.symm from (name_of ident)) (sym (lookup-step old.entries (name_of ident)))
  where
    either : (b : Bool) (found : Option RenamingStep) → option_map change_of_step (cond b (Some step) found) ≡ cond b (Some (change_of_step step)) (option_map change_of_step found)
    either true found = refl
    either false found = refl

-- what a reference shows, mapped
pub copied-map : {A B : Type 0} (f : A → B) (found : Option (Bor A)) → option_map (λ one. f one.now) found ≡ option_map f (option_copied found)
copied-map f (Some one) = refl
copied-map f None = refl

-- a step that is put in
pub put-says : (old new : BTreeMap IdName RenamingStep) (from to : IdName) (spelled : Bool) (renaming : Renaming) → spelled ≡ not (bytes_eq from.symbol to.symbol) → map renaming_pair old.entries ≡ renaming → Updates name_cmp old new from (Some (record { to = to; is_spelled_out = spelled })) → SaySame (map renaming_pair new.entries) (with_pair renaming (ident_named from) (ident_named to))
put-says old new from to spelled renaming is view updates = λ ident.
    insert-says old new from (record { to = to; is_spelled_out = spelled }) updates ident
    ∙ ap₂ (λ (b : Bool) (all : Renaming). lookup (ident_eq ident) ((ident_named from, record { ident = ident_named to; is_spelled_out = b }) ∷ all)) is view

-- a map of the same steps
pub clone-says : (old new : BTreeMap IdName RenamingStep) → IsClone (λ (name copy : IdName). copy ≡ name) (λ (step copy : RenamingStep). change_of_step copy ≡ change_of_step step) old new → map renaming_pair new.entries ≡ map renaming_pair old.entries
clone-says old new clone = by old.entries new.entries clone
  where
    by : (olds news : List (IdName × RenamingStep)) → AllZip (λ p q. (q.0 ≡ p.0) × (change_of_step q.1 ≡ change_of_step p.1)) olds news → map renaming_pair news ≡ map renaming_pair olds
    by [] [] all = refl
    by [] (y ∷ ys) all = absurd all
    by (x ∷ xs) [] all = absurd all
    by (x ∷ xs) (y ∷ ys) all = ap₂ (λ (p : Ident × Change) (ps : List (Ident × Change)). p ∷ ps) (λ i. (ident_named (all.0.0 i), all.0.1 i)) (by xs ys all.1)

-- Renamings.

pub same-change : (one other : Renaming) → SaySame one other → (ident : Ident) → change_by one ident ≡ change_by other ident
same-change one other says ident = ap (λ (found : Option Change). unwrap_or found (record { ident = ident; is_spelled_out = false })) (says ident)

pub cons-says : (one other : Renaming) (pair : Ident × Change) → SaySame one other → SaySame (pair ∷ one) (pair ∷ other)
cons-says one other pair says = λ ident. ap (cond (ident_eq ident pair.0) (Some pair.1)) (says ident)

-- one more step of a renaming that goes on, in front of the others
pub next-says : (second : Renaming) (old new : BTreeMap IdName RenamingStep) (done : List (IdName × RenamingStep)) (from : IdName) (step made : RenamingStep) → SaySame (map renaming_pair old.entries) (followed_by (map renaming_pair done) second) → change_of_step made ≡ change_then second (change_of_step step) → Updates name_cmp old new from (Some made) → SaySame (map renaming_pair new.entries) (followed_by (map renaming_pair ((from, step) ∷ done)) second)
next-says second old new done from step made says is updates = λ ident.
    insert-says old new from made updates ident
    ∙ ap (λ (change : Change). cond (ident_eq ident (ident_named from)) (Some change) (lookup (ident_eq ident) (map renaming_pair old.entries))) is
    ∙ cons-says (map renaming_pair old.entries) (followed_by (map renaming_pair done) second) (ident_named from, change_then second (change_of_step step)) says ident

-- of these steps, those that are left, and a renaming by which those that are done go on
pub record Followed (all rest : List (IdName × RenamingStep)) (second : Renaming) (made : BTreeMap IdName RenamingStep) : Type 0 where
  pub done : List (IdName × RenamingStep)
  pub split : all ≡ rest ++ done
  pub says : SaySame (map renaming_pair made.entries) (followed_by (map renaming_pair done) second)

-- nothing is done
pub followed-start : (all rest : List (IdName × RenamingStep)) (second : Renaming) (made : BTreeMap IdName RenamingStep) → rest ≡ all → map renaming_pair made.entries ≡ second → Followed all rest second made
followed-start all rest second made is same = record {
  done = [];
  split = sym is ∙ sym (append-nil rest);
  says = λ ident. ap (lookup (ident_eq ident)) same;
}

-- the last of those that are left is done
pub followed-step : (all rest left : List (IdName × RenamingStep)) (second : Renaming) (old new : BTreeMap IdName RenamingStep) (from key : IdName) (step made : RenamingStep) → Followed all rest second old → rest ≡ left ++ (from, step) ∷ [] → key ≡ from → change_of_step made ≡ change_then second (change_of_step step) → Updates name_cmp old new key (Some made) → Followed all left second new
followed-step all rest left second old new from key step made so_far last same is updates = record {
  done = (from, step) ∷ so_far.done;
  split = so_far.split ∙ ap (λ (items : List (IdName × RenamingStep)). items ++ so_far.done) last ∙ append_assoc left ((from, step) ∷ []) so_far.done;
  says = next-says second old new so_far.done from step made so_far.says is (subst (λ (name : IdName). Updates name_cmp old new name (Some made)) same updates);
}

-- all are done
pub followed-end : (all rest : List (IdName × RenamingStep)) (first second : Renaming) (made : BTreeMap IdName RenamingStep) → map renaming_pair all ≡ first → Followed all rest second made → rest ≡ [] → SaySame (map renaming_pair made.entries) (followed_by first second)
followed-end all rest first second made view so_far none =
    let same : map renaming_pair so_far.done ≡ first = ap (map renaming_pair) (sym (so_far.split ∙ ap (λ (items : List (IdName × RenamingStep)). items ++ so_far.done) none)) ∙ view in
    subst (λ (renaming : Renaming). SaySame (map renaming_pair made.entries) (followed_by renaming second)) same so_far.says

-- What is spelled out.

-- the renaming that some steps stand for
pub view-keeps : (steps : List (IdName × RenamingStep)) (renaming : Renaming) → map renaming_pair steps ≡ renaming → KeepsSymbols (change_by (map renaming_pair steps)) → KeepsSymbols (change_by renaming)
view-keeps steps renaming view keeps = subst (λ (all : Renaming). KeepsSymbols (change_by all)) view keeps

pub same-keeps : (one other : Renaming) → SaySame one other → KeepsSymbols (change_by other) → KeepsSymbols (change_by one)
same-keeps one other says keeps = λ ident short.
    ap (λ (change : Change). change.ident.0) (same-change one other says ident) ∙ keeps ident (sym (ap (λ (change : Change). change.is_spelled_out) (same-change one other says ident)) ∙ short)

pub with_pair-keeps : (old : Renaming) (from to : Ident) → KeepsSymbols (change_by old) → KeepsSymbols (change_by (with_pair old from to))
with_pair-keeps old from to keeps = λ ident. by ident (ident_eq ident from) refl
  where
    by : (ident : Ident) (b : Bool) → ident_eq ident from ≡ b → (unwrap_or (cond b (Some (change_to from to)) (lookup (ident_eq ident) old)) (record { ident = ident; is_spelled_out = false })).is_spelled_out ≡ false → (unwrap_or (cond b (Some (change_to from to)) (lookup (ident_eq ident) old)) (record { ident = ident; is_spelled_out = false })).ident.0 ≡ ident.0
    by ident true is short =
        sym ((bytes_eq-Decides from.0 to.0).0 (not-false (bytes_eq from.0 to.0) short))
        ∙ sym ((bytes_eq-Decides ident.0 from.0).0 (and_parts (bytes_eq ident.0 from.0) (ident.1 == from.1) is).0)
    by ident false is short = keeps ident short

pub followed_by-keeps : (first second : Renaming) → KeepsSymbols (change_by first) → KeepsSymbols (change_by second) → KeepsSymbols (change_by (followed_by first second))
followed_by-keeps first second keeps_first keeps_second = λ ident short.
    let one : Change = change_by first ident in
    let two : Change = change_by second one.ident in
    let parts : (one.is_spelled_out ≡ false) × (two.is_spelled_out ≡ false) = or_parts one.is_spelled_out two.is_spelled_out (sym (ap (λ (change : Change). change.is_spelled_out) (followed-is first second ident)) ∙ short) in
    ap (λ (change : Change). change.ident.0) (followed-is first second ident) ∙ keeps_second one.ident parts.1 ∙ keeps_first ident parts.0

-- Trees.

-- the renaming that says what two say, one after the other, is one for both
pub composes : (first second both : Renaming) → KeepsSymbols (change_by first) → SaySame both (followed_by first second) → Compose first second both
composes first second both keeps says items =
    renamed_all-twice first second items keeps
    ∙ sym (renamed_all-same both (followed_by first second) (items_list items) (same-change both (followed_by first second) says))
