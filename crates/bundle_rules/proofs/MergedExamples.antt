-- Bundles that are refused, by contexts, by a fault of the program, or by what a hook answered.
use Rattle.std.proofs.Common.{◌≡◌, ◌<◌, ℕ, zero, suc, true, false, List, [], ◌∷◌, ◌++◌, Some, None, refl, sym, ap, ◌∙◌, arith, lit<, true≢false}
use Rattle.std.specs.Prelude.{Contains, codes, option_map, slice_get}
use Rattle.std.proofs.lemmas.Option.{none-some, same_Some}
use Rattle.bundle_syntax.specs.declared.kind.VarDeclKind.TheVariants.{Const, Let, Var}
use Rattle.bundle_syntax.specs.Item as h
use Rattle.bundle_syntax.specs.Item.{Item}
use Rattle.bundle_syntax.specs.declared.piece.Role.TheVariants.{Binding, Reference}
use Rattle.bundle_rules.specs.Places.{Occurrence, occurrences}
use Rattle.bundle_rules.specs.Scopes.{Es, Top}
use Rattle.bundle_rules.specs.Declarations.{ByContext, Declared as Declaration, declared}
use Rattle.bundle_rules.specs.Denotes.{Denoted, Bound, Global, denoted_of}
use Rattle.bundle_rules.specs.Keywords.{keyword_free}
use Rattle.bundle_order_graph.specs.Walks.{itself}
use Rattle.bundle_rules.specs.Nodes.{Text, IsWholeModule}
use Rattle.bundle_rules.specs.Statements.{no_notes}
use Rattle.bundle_rules.specs.Entries.{Settings}
use Rattle.bundle_rules.specs.Parts.{Parts}
use Rattle.bundle_rules.specs.Program.{Program}
use Rattle.bundle_rules.specs.Kept.{Kept, local_context}
use Rattle.bundle_rules.specs.Linking.{Declared}
use Rattle.bundle_rules.specs.Meaning.{Label, Of, Labelling, is_es}
use Rattle.bundle_rules.specs.Bundle.{Hooks, Labelled, AreFaultless}
use Rattle.bundle_rules.specs.Faults.{Parties}
use Rattle.bundle_rules.specs.Judging.{Entry, AcceptsProgram}
use Rattle.bundle_rules.specs.Merged.{Contexts, HasContexts, is_module_name, HasOthersAbove, BindsOwn, IsPrepared}
use Rattle.bundle_rules.specs.Headline.{BundleKind, Dynamic, IsBundleOf, IsClean}
use Rattle.bundle_rules.proofs.PlacesLemmas.{occurrence_at-listed}
use Rattle.bundle_rules.proofs.Trees.{node, module_of, word, number, function, declares, imports, exports_const, exports_default, uses, runs}
use Rattle.bundle_rules.proofs.Programs.{program}
use Rattle.bundle_rules.proofs.FaultExamples.{ring, x_is_missing, under_iife}

-- Contexts. `zzz;`, where nothing binds zzz

-- a bundle that is read by symbol and context, with these labels
abbrev read : List Item → Labelling → Labelled
read tree labels = record { tree = tree; reading = ByContext; labels = labels }

-- where zzz has the context 4 the contexts are wrong
strange_global : (spelled : Text → Text) (local : ℕ → ℕ) → HasContexts spelled local (read (module_of (runs (h.Ident 0 (codes "zzz") 4 Reference ∷ []))) []) → ⊥
strange_global spelled local has = let e : ◌≡◌ {A = ℕ} 4 1 = has.globals 2 _ (codes "zzz") refl refl in grind arith

-- a name x of module 3 with another context than its module's is wrong too
strange_local : (tree : List Item) → HasContexts keyword_free local_context (read tree ((Bound Top (record { sym = codes "x"; ctxt = Some 2 }), Of (Declared 3 (codes "x"))) ∷ [])) → ⊥
strange_local tree has = cc (has.declared Top (record { sym = codes "x"; ctxt = Some 2 }) 3 (codes "x") (0, lit< tt, refl) refl)

-- and so is `const __default#9` of `export default 1;` in module 0, where no name is `__default#2`
abbrev default_with : ℕ → List Item
default_with ctxt = node 0 (h.VarDecl Const no_notes) (node 1 h.VarDeclarator (node 0 h.BindingIdent (h.Ident 0 (codes "__default") ctxt Binding ∷ []) ++ number 1 (codes "1")))

abbrev default_label : Labelling
default_label = (Bound Top (record { sym = codes "__default"; ctxt = Some 9 }), Of (Declared 0 (codes "default"))) ∷ []

strange_default : HasContexts keyword_free local_context (read (module_of (default_with 9)) default_label) → ⊥
strange_default has = let it = has.stands Top (record { sym = codes "__default"; ctxt = Some 9 }) 0 (codes "default") (0, lit< tt, refl) in other it.0 it.1 it.3
  where
    other : (o : Occurrence) → Contains (occurrences (module_of (default_with 9))) o → o.ctxt ≡ 2 → ⊥
    other o (zero, within, is) e = let nine : ◌≡◌ {A = ℕ} 9 2 = ap (λ (q : Occurrence). q.ctxt) is ∙ e in grind arith
    other o (suc i, within, is) e = grind arith

-- with `const __default = 2;` beside it in that module, which has that one, it may have lost its own
lost_default : HasContexts keyword_free local_context (read (module_of (default_with 9 ++ default_with 2)) default_label)
lost_default = record {
  declared = λ scope name m x c kept. absurd (is_default m x (its_label c) kept);
  stands = λ scope name m x c. let is = its_label c in (_, (1, lit< tt, refl), ap (λ l. keyword_free (text_of l)) is, ap (λ l. local_context (module_in l)) is);
  globals = λ place o x there denotes. let listed = occurrence_at-listed both place o there in absurd (no_global listed.0 o x listed.1 (same_Some _ _ (sym (ap (option_map (denoted_of ByContext Es (declared ByContext Es both))) there) ∙ denotes)));
}
  where
    text_of : Label → Text
    text_of (Of (Declared m x)) = x
    text_of l = []

    module_in : Label → ℕ
    module_in (Of (Declared m x)) = m
    module_in l = 0

    its_label : {d : Denoted} {l : Label} → Contains default_label (d, l) → Of (Declared 0 (codes "default")) ≡ l
    its_label (zero, within, is) = ap (λ (pair : Denoted × Label). pair.1) is
    its_label (suc i, within, is) = grind arith

    is_default : (m : ℕ) (x : Text) → Of (Declared 0 (codes "default")) ≡ Of (Declared m x) → keyword_free x ≡ x → ⊥
    is_default m x is kept = cc (ap (λ l. keyword_free (text_of l)) is ∙ kept ∙ sym (ap text_of is))

    both : List Item
    both = module_of (default_with 9 ++ default_with 2)

    no_global : (i : ℕ) (o : Occurrence) (x : Text) → slice_get (occurrences both) i ≡ Some o → denoted_of ByContext Es (declared ByContext Es both) o ≡ Global x → ⊥
    no_global zero o x at denotes = cc (ap (denoted_of ByContext Es (declared ByContext Es both)) (same_Some _ o at) ∙ denotes)
    no_global (suc zero) o x at denotes = cc (ap (denoted_of ByContext Es (declared ByContext Es both)) (same_Some _ o at) ∙ denotes)
    no_global (suc (suc i)) o x at denotes = absurd (none-some o at)

-- a binding with the context 1 would be taken for a global
bound_as_a_global : BindsOwn (module_of (runs (h.Ident 0 (codes "Object") 1 Binding ∷ []))) → ⊥
bound_as_a_global own = own 0 _ refl refl refl

-- and a name inside a block, which is no module's, has no context of module 0: those are 2 and 3
abbrev no_labels : Labelling
no_labels = []

low_inside : HasOthersAbove ring (read (module_of (node 0 h.BlockStmt (default_with 2))) no_labels) → ⊥
low_inside above = let low : 3 < 2 = above 5 _ _ _ 0 refl refl (λ l there. no_label there) itself in grind arith
  where
    no_label : {d : Denoted} {l : Label} → Contains no_labels (d, l) → is_module_name l ≡ false
    no_label (i, within, is) = grind arith

-- plain words of a bundle that is not renamed have no context, and its names keep theirs
clean_name : IsClean (record { require = false; external = []; iife = false; renames = false; most_modules = 9; in_standard_order = false }) (module_of (runs (h.Ident 0 (codes "zzz") 4 Reference ∷ [])))
clean_name = refl

-- Faults.

-- main: `import { x } from './a';` with a and b that give it to each other: there is no such bundle, though nothing uses x
no_bundle_of_a_fault : (parties : Parties) → AcceptsProgram ring parties → ⊥
no_bundle_of_a_fault parties accepted = accepted.faultless 0 5 0 _ _ itself x_is_missing

-- main: `import { y as default } from './a'; export default 5;` declares `default` twice, so nothing of it is prepared to be merged
abbrev twice_default : Program
twice_default = program (imports (codes "y") (codes "default") (codes "./a") ++ exports_default (number 0 (codes "5"))) (exports_const (codes "y") (number 1 (codes "1"))) [] []

nothing_is_prepared : (hooks : Hooks) (contexts : ℕ → Contexts) (next : ℕ) (prepared : Parts) → IsPrepared twice_default hooks contexts next prepared → ⊥
nothing_is_prepared hooks contexts next prepared it = is_doubled _ (it.undoubled 0 Es itself (is_es (λ c. true≢false (sym c.linked))))
  where
    is_doubled : (d : Declaration) → Some d ≡ None → ⊥
    is_doubled d e = cc

-- `{ let a; { var a; } }` is no bundle that is renamed, whatever the program
abbrev passed : List Item
passed = module_of (node 0 h.BlockStmt (declares Let (codes "a") [] ++ node 0 h.BlockStmt (declares Var (codes "a") [])))

no_doubled_bundle : (parties : Parties) (settings : Settings) (kept : Kept) (kind : BundleKind) (id : ℕ) (entry : Entry) → settings.renames ≡ true → IsBundleOf parties settings kept (record { kind = kind; id = id; tree = passed }) entry → ⊥
no_doubled_bundle parties settings kept kind id entry renames bundle = is_doubled _ (bundle.undoubled renames)
  where
    is_doubled : (d : Declaration) → Some d ≡ None → ⊥
    is_doubled d e = cc

-- a bundle that is handed out is of the kind that is named
no_other_kind : (parties : Parties) (settings : Settings) (kept : Kept) (id : ℕ) (tree : List Item) (entry : Entry) → IsBundleOf parties settings kept (record { kind = Dynamic; id = id; tree = tree }) entry → ⊥
no_other_kind parties settings kept id tree entry bundle = cc bundle.its_kind

-- what is named is the list of a module: `zzz;` is one, and with a name behind it, which one function's call would leave out, it is none
abbrev zzz : List Item
zzz = module_of (runs (h.Ident 0 (codes "zzz") 4 Reference ∷ []))

whole : IsWholeModule zzz
whole = refl

not_behind : IsWholeModule (zzz ++ h.Ident 0 (codes "arguments1") 0 Reference ∷ []) → ⊥
not_behind e = no_more _ (sym (ap (λ l. slice_get l 5) e))
  where
    no_more : (x : Item) → None ≡ Some x → ⊥
    no_more x e = cc

-- What a hook answered.

-- `f: function () { .. }`
abbrev property : List Item → List Item
property stmts = node 0 h.KeyValueProp (word 0 (codes "f") ++ node 1 h.FnExpr (function 1 stmts))

faultless : AreFaultless (under_iife []) (property (declares Let (codes "q") []))
faultless = record { undoubled = refl; no_with = refl; no_arguments = λ is. refl }

-- `let q; let q;` in it is a fault, and such an answer stands in no bundle
not_faultless : AreFaultless (under_iife []) (property (declares Let (codes "q") [] ++ declares Let (codes "q") [])) → ⊥
not_faultless is = is_doubled _ is.undoubled
  where
    is_doubled : (d : Declaration) → Some d ≡ None → ⊥
    is_doubled d e = cc

-- and under one function's call, `f: arguments`
no_free_arguments : AreFaultless (under_iife []) (node 0 h.KeyValueProp (word 0 (codes "f") ++ uses 1 (codes "arguments"))) → ⊥
no_free_arguments is = true≢false (is.no_arguments refl)
