-- What is made for the `import.meta` of a module is right by itself.
use Rattle.std.proofs.Common.{◌≡◌, ℕ, List, [], ◌∷◌, ◌++◌, Option, Some, None, option_map, append_assoc, codes, drop, ap, sym, ◌∙◌, subst}
use Rattle.std.proofs.lemmas.List.{append_cancel_right}
use Rattle.bundle_syntax.specs.declared.kind.ExportMetadata.{ExportMetadata}
use Rattle.bundle_syntax.specs.declared.kind.VarDeclKind.TheVariants.{Const}
use Rattle.bundle_syntax.specs.declared.piece.Role.TheVariants.{Binding}
use Rattle.bundle_syntax.specs.Item as h
use Rattle.bundle_syntax.specs.Item.{Item}
use Rattle.bundle_rules.specs.Meaning.{Meta}
use Rattle.bundle_rules.specs.Merged.{IsMetaItem, meta_item}
use Rattle.bundle_rules.specs.Program.{Program, IsReached}
use Rattle.bundle_rules.specs.Bundle.{HoldsMeta, AsModule, Hooks, IsDue, holds_meta as meta_due}
use Rattle.bundle_tree_places.specs.Edits.{node}
use Rattle.bundle_merge_injected.specs.Listed as l
use Rattle.bundle_scope_names.specs.fit.Sorts.{AProperty, Many, slot}
use Rattle.bundle_scope_names.specs.fit.Fits.{AreFit}
use Rattle.bundle_merge_theory.specs.made.Given.{HookAnswer, Fresh, Written, AreFresh, all_fresh, BundleContexts, NameOf, ident_of_label}
use Rattle.bundle_merge_theory.specs.made.Made.{IsMade, IsWrittenAs, holds_meta as made_meta, holds_written as made_written}
use Rattle.bundle_merge_theory.specs.made.Alone.{TellApart, IsItemAlone}
use Rattle.bundle_merge_theory.proofs.answered.Answered.{meta-alone}
use Rattle.bundle_merge_theory.proofs.answered.Denoting as d
use Rattle.bundle_merge_theory.proofs.answered.Resolving.{fresh, fresh-notes}
use Rattle.bundle_merge_theory.proofs.answered.Properties.{Answering}
use Rattle.bundle_merge_theory.proofs.answered.Written.{written-answer, written-notes}

-- such an object has one context, one list of notes and one of properties
pub meta-item-one : (notes other : ExportMetadata) (ctxt its : ℕ) (xs ys : List Item) →
    meta_item notes ctxt xs ≡ meta_item other its ys →
    (notes ≡ other) × (ctxt ≡ its) × (xs ≡ ys)
meta-item-one notes other ctxt its xs ys same =
    let one : notes ≡ other = cc in
    let contexts : ctxt ≡ its = cc in (
      one,
      contexts,
      append_cancel_right xs ys (h.Close ∷ h.Close ∷ h.Close ∷ []) (ap (drop 6) same),
    )

-- an object that may be held is made of what is written already
pub written-made : (p : Program) (hooks : Hooks) (list : List ℕ) (context : BundleContexts)
    (answers : ℕ → Option HookAnswer) (m ctxt : ℕ) (notes : ExportMetadata) (properties : List Item) →
    IsMetaItem p hooks m (meta_item notes ctxt properties) →
    answers m ≡ Some (Written ctxt notes properties) → IsWrittenAs context m ctxt properties →
    IsMade p hooks list context answers (HoldsMeta m) (meta_item notes ctxt properties)
written-made p hooks list context answers m ctxt notes properties its answered written =
    let same = meta-item-one notes its.meta ctxt its.ctxt properties its.properties its.is in
    made_written its
    (answered ∙ (λ i. Some (Written (same.1 i) (same.0 i) (same.2 i))))
    (record {
      fit = subst (AreFit (slot 0 Many AProperty ∷ [])) same.2 written.fit;
      name = written.name ∙ same.1;
      inside = written.inside;
    })

-- answers that are all fresh are so, and each is that which was given
pub are-fresh : (given : ℕ → Option (List Item)) → AreFresh (all_fresh given)
are-fresh given m ctxt notes properties told = by (given m) told
  where
    by : (o : Option (List Item)) → option_map Fresh o ≡ Some (Written ctxt notes properties) → ⊥
    by None is = cc
    by (Some its) is = cc

pub fresh-told : (given : ℕ → Option (List Item)) (m : ℕ) (properties : List Item) →
    all_fresh given m ≡ Some (Fresh properties) → given m ≡ Some properties
fresh-told given m properties told = by (given m) told
  where
    by : (o : Option (List Item)) → option_map Fresh o ≡ Some (Fresh properties) →
        o ≡ Some properties
    by None is = cc
    by (Some its) is = let same : its ≡ properties = cc in ap (λ l. Some l) same

pub reached-by : {p : Program} {m : ℕ} → IsDue p AsModule (HoldsMeta m) → IsReached p m
reached-by (meta_due reached has) = reached

-- the item is what was answered with its name, or was written so
pub record ByAnswer (p : Program) (hooks : Hooks) (list : List ℕ) (context : BundleContexts)
    (answers : ℕ → Option HookAnswer) (m : ℕ) (item : List Item) : Type 1 where
  pub properties : List Item
  pub within : List Item
  pub facts : Answering p hooks context answers m properties within
  pub is : item ≡ d.item list facts

pub by-answer : (p : Program) (hooks : Hooks) (list : List ℕ) (context : BundleContexts)
    (answers : ℕ → Option HookAnswer) → TellApart p answers context → (m : ℕ)
    (item : List Item) → IsDue p AsModule (HoldsMeta m) →
    IsMade p hooks list context answers (HoldsMeta m) item →
    ByAnswer p hooks list context answers m item
by-answer p hooks list context answers apart m item due
    (made_meta properties made answered its is) =
    record {
      properties = properties;
      within = made;
      facts = fresh its answers (reached-by due) answered apart due;
      is =
          is
          ∙ ap (λ notes. l.constant notes (ident_of_label p list context (Meta m)) (node 1 h.ObjectLit made))
          (sym (fresh-notes its answers (reached-by due) answered apart due));
    }
by-answer p hooks list context answers apart m item due (made_written its answered written) =
    record {
      properties = its.answered;
      within = its.properties;
      facts = written-answer its written answers (reached-by due) answered apart due;
      is =
          its.is
          ∙ ap (λ ctxt. meta_item its.meta ctxt its.properties) (sym written.name)
          ∙ ap
          (λ rest. h.Open 0 (h.VarDecl Const its.meta) ∷ h.Open 1 h.VarDeclarator ∷ h.Open 0 h.BindingIdent ∷ h.Ident 0 (codes "importMeta") (context (NameOf (Meta m))) Binding ∷ h.Close ∷ h.Open 1 h.ObjectLit ∷ rest)
          (sym (behind its.properties))
          ∙ ap (λ notes. l.constant notes (ident_of_label p list context (Meta m)) (node 1 h.ObjectLit its.properties))
          (sym (written-notes its written answers (reached-by due) answered apart due));
    }
  where
    behind : (within : List Item) → ((within ++ h.Close ∷ []) ++ h.Close ∷ []) ++ h.Close ∷ []
        ≡ within ++ h.Close ∷ h.Close ∷ h.Close ∷ []
    behind within = simp append_assoc

-- THE OBJECT OF `import.meta`
pub answered-alone : (p : Program) (hooks : Hooks) (list : List ℕ) (context : BundleContexts)
    (answers : ℕ → Option HookAnswer) → TellApart p answers context → (m : ℕ)
    (item : List Item) → IsDue p AsModule (HoldsMeta m) →
    IsMade p hooks list context answers (HoldsMeta m) item →
    IsItemAlone p hooks list context answers (HoldsMeta m) item
answered-alone p hooks list context answers apart m item due made =
    let it = by-answer p hooks list context answers apart m item due made in
    subst (IsItemAlone p hooks list context answers (HoldsMeta m)) (sym it.is)
    (meta-alone list it.facts)
