-- Nodes for which nothing is to be noted but how they declare the names in them.
use Rattle.std.proofs.Common.{◌≡◌, ℕ, suc, ◌+◌, ◌==◌, ◌&&◌, Bool, true, false, cond, List, [], ◌∷◌, ◌++◌, Option, Some, None, option_map, length, drop, reverse, refl, ap, sym, ◌∙◌, subst, append-nil, arith}
use Rattle.std.specs.Prelude.{slice_get}
use Rattle.std.specs.Option.{option_to_list}
use Rattle.std.proofs.lemmas.List.{reverse-append}
use Rattle.bundle_syntax.specs.Item as h
use Rattle.bundle_syntax.specs.Item.{Item, Head}
use Rattle.bundle_rules.specs.Scopes as s
use Rattle.bundle_rules.specs.Declarations as d
use Rattle.bundle_scope_denote.specs.declared.table.ScopeKind.{ScopeKind}
use Rattle.bundle_scope_denote.specs.declared.table.ScopeKind.TheVariants as k
use Rattle.bundle_scope_denote.specs.declared.table.Way.{Way}
use Rattle.bundle_scope_denote.specs.declared.walk.Open.{Open}
use Rattle.bundle_scope_denote.specs.declared.walk.ScopeWalk.{ScopeWalk}
use Rattle.bundle_scope_denote.specs.Kinds.{is_in_field, is_quiet, kind_made, kind_named, leaves_first_out, head_way_in, variable_way}
use Rattle.bundle_scope_denote.specs.Numbers.{in_scope}
use Rattle.bundle_scope_denote.specs.Chains.{IsOnce}
use Rattle.bundle_scope_denote.specs.Walked.{InheritsOpen, IsBare, begins_nameless, scope_in, scope_within}
use Rattle.bundle_scope_denote.specs.Steps.{BeginsNode, Opens, StaysInWalk, walk_names, nodes_open, one_by_one, repeated, scope_made, scopes_of}
use Rattle.bundle_scope_denote.proofs.ChainLemmas.{Keeps-same}
use Rattle.bundle_scope_denote.proofs.WalkLemmas.{drop-at}

-- all that is noted of a node but how a pattern declares
abbrev asked : Head → Option Way → (is_default heads_loop : Bool) → ScopeKind → (field place : ℕ) → List Item → Option Way × (Option Way × (Option ScopeKind × (s.ScopeKind × (Bool × (Bool × (Bool × Bool))))))
asked head variable is_default heads_loop block field place rest =
    (head_way_in head variable is_default, (variable_way head heads_loop, (kind_made head block is_default, (s.block_in head, (s.exports_default head, (d.is_loop_head head place, (leaves_first_out head, d.is_nameless_default (h.Open field head) rest)))))))

abbrev nothing : Option Way × (Option Way × (Option ScopeKind × (s.ScopeKind × (Bool × (Bool × (Bool × Bool))))))
nothing = (None, (None, (None, (s.Block, (false, (false, (false, false)))))))

quiet-asks : (head : Head) (v : Option Way) (b c : Bool) (kind : ScopeKind) (field place : ℕ) (rest : List Item) → is_quiet head ≡ true → asked head v b c kind field place rest ≡ nothing
quiet-asks h.Module v b c kind field place rest is = refl
quiet-asks (h.ImportDecl x) v b c kind field place rest is = refl
quiet-asks h.ImportNamedSpecifier v b c kind field place rest is = cc
quiet-asks h.ImportDefaultSpecifier v b c kind field place rest is = cc
quiet-asks h.ImportStarAsSpecifier v b c kind field place rest is = cc
quiet-asks h.ExportDecl v b c kind field place rest is = refl
quiet-asks (h.NamedExport x) v b c kind field place rest is = refl
quiet-asks h.ExportNamespaceSpecifier v b c kind field place rest is = refl
quiet-asks h.ExportNamedSpecifier v b c kind field place rest is = refl
quiet-asks h.ExportDefaultDecl v b c kind field place rest is = cc
quiet-asks h.ExportDefaultExpr v b c kind field place rest is = cc
quiet-asks (h.ExportAll x) v b c kind field place rest is = refl
quiet-asks h.BlockStmt v b c kind field place rest is = cc
quiet-asks h.EmptyStmt v b c kind field place rest is = refl
quiet-asks h.DebuggerStmt v b c kind field place rest is = refl
quiet-asks h.WithStmt v b c kind field place rest is = refl
quiet-asks h.ReturnStmt v b c kind field place rest is = refl
quiet-asks h.LabeledStmt v b c kind field place rest is = refl
quiet-asks h.BreakStmt v b c kind field place rest is = refl
quiet-asks h.ContinueStmt v b c kind field place rest is = refl
quiet-asks h.IfStmt v b c kind field place rest is = refl
quiet-asks h.SwitchStmt v b c kind field place rest is = cc
quiet-asks h.SwitchCase v b c kind field place rest is = refl
quiet-asks h.ThrowStmt v b c kind field place rest is = refl
quiet-asks h.TryStmt v b c kind field place rest is = refl
quiet-asks h.CatchClause v b c kind field place rest is = cc
quiet-asks h.WhileStmt v b c kind field place rest is = refl
quiet-asks h.DoWhileStmt v b c kind field place rest is = refl
quiet-asks h.ForStmt v b c kind field place rest is = cc
quiet-asks h.ForInStmt v b c kind field place rest is = cc
quiet-asks (h.ForOfStmt x) v b c kind field place rest is = cc
quiet-asks h.ExprStmt v b c kind field place rest is = refl
quiet-asks h.ClassDecl v b c kind field place rest is = cc
quiet-asks h.FnDecl v b c kind field place rest is = cc
quiet-asks (h.VarDecl x y) v b c kind field place rest is = cc
quiet-asks h.VarDeclarator v b c kind field place rest is = cc
quiet-asks h.ThisExpr v b c kind field place rest is = refl
quiet-asks h.ArrayLit v b c kind field place rest is = refl
quiet-asks h.ObjectLit v b c kind field place rest is = refl
quiet-asks h.FnExpr v b c kind field place rest is = cc
quiet-asks (h.UnaryExpr x) v b c kind field place rest is = refl
quiet-asks (h.UpdateExpr x y) v b c kind field place rest is = refl
quiet-asks (h.BinExpr x) v b c kind field place rest is = refl
quiet-asks (h.AssignExpr x) v b c kind field place rest is = refl
quiet-asks h.MemberExpr v b c kind field place rest is = refl
quiet-asks h.SuperPropExpr v b c kind field place rest is = refl
quiet-asks h.CondExpr v b c kind field place rest is = refl
quiet-asks h.CallExpr v b c kind field place rest is = refl
quiet-asks (h.NewExpr x) v b c kind field place rest is = refl
quiet-asks h.SeqExpr v b c kind field place rest is = refl
quiet-asks h.Tpl v b c kind field place rest is = refl
quiet-asks (h.TplElement x) v b c kind field place rest is = refl
quiet-asks h.TaggedTpl v b c kind field place rest is = refl
quiet-asks (h.ArrowExpr x) v b c kind field place rest is = cc
quiet-asks h.ClassExpr v b c kind field place rest is = cc
quiet-asks (h.YieldExpr x) v b c kind field place rest is = refl
quiet-asks (h.MetaPropExpr x) v b c kind field place rest is = refl
quiet-asks h.AwaitExpr v b c kind field place rest is = refl
quiet-asks h.ParenExpr v b c kind field place rest is = refl
quiet-asks (h.OptChainExpr x) v b c kind field place rest is = refl
quiet-asks h.OptCall v b c kind field place rest is = refl
quiet-asks (h.ExprOrSpread x) v b c kind field place rest is = refl
quiet-asks h.Super v b c kind field place rest is = refl
quiet-asks h.Import v b c kind field place rest is = refl
quiet-asks (h.IdentName x) v b c kind field place rest is = refl
quiet-asks (h.PrivateName x) v b c kind field place rest is = refl
quiet-asks (h.Str x y) v b c kind field place rest is = refl
quiet-asks (h.Bool x) v b c kind field place rest is = refl
quiet-asks h.Null v b c kind field place rest is = refl
quiet-asks (h.Number x) v b c kind field place rest is = refl
quiet-asks (h.BigInt x) v b c kind field place rest is = refl
quiet-asks (h.Regex x) v b c kind field place rest is = refl
quiet-asks h.SpreadElement v b c kind field place rest is = refl
quiet-asks h.KeyValueProp v b c kind field place rest is = refl
quiet-asks h.GetterProp v b c kind field place rest is = cc
quiet-asks h.SetterProp v b c kind field place rest is = cc
quiet-asks h.MethodProp v b c kind field place rest is = refl
quiet-asks h.ComputedPropName v b c kind field place rest is = refl
quiet-asks h.BindingIdent v b c kind field place rest is = refl
quiet-asks h.ArrayPat v b c kind field place rest is = refl
quiet-asks h.ObjectPat v b c kind field place rest is = refl
quiet-asks h.RestPat v b c kind field place rest is = refl
quiet-asks h.AssignPat v b c kind field place rest is = refl
quiet-asks h.KeyValuePatProp v b c kind field place rest is = refl
quiet-asks h.AssignPatProp v b c kind field place rest is = refl
quiet-asks (h.Function x y) v b c kind field place rest is = cc
quiet-asks h.Param v b c kind field place rest is = cc
quiet-asks h.Class v b c kind field place rest is = refl
quiet-asks h.Constructor v b c kind field place rest is = cc
quiet-asks (h.ClassMethod x y) v b c kind field place rest is = refl
quiet-asks (h.PrivateMethod x y) v b c kind field place rest is = refl
quiet-asks (h.ClassProp x) v b c kind field place rest is = refl
quiet-asks (h.PrivateProp x) v b c kind field place rest is = refl
quiet-asks h.StaticBlock v b c kind field place rest is = cc

-- no default export without a name begins with such a node
pub quiet-nameless : (items : List Item) (place field : ℕ) (head : Head) → slice_get items place ≡ Some (h.Open field head) → is_quiet head ≡ true → begins_nameless (drop place items) ≡ false
quiet-nameless items place field head at quiet = ap begins_nameless (drop-at items place (h.Open field head) at) ∙ ap (λ t. t.1.1.1.1.1.1.1) (quiet-asks head None false false k.Block field 0 (drop (place + 1) items) quiet)

-- such a node begins, and is the innermost one
pub quiet-begins : (old new : ScopeWalk) (place field : ℕ) (head : Head) → is_quiet head ≡ true → IsBare new.inner → new.inner.way ≡ cond (d.is_pattern head) old.inner.way None → new.inner.around ≡ scope_in old.inner field → nodes_open new ≡ new.inner ∷ nodes_open old → walk_names new ≡ walk_names old → scopes_of new ≡ scopes_of old → new.declarations.items ≡ old.declarations.items → new.occurrences.items ≡ old.occurrences.items → StaysInWalk old new → BeginsNode old new place field head false
quiet-begins old new place field head quiet bare way around nodes names scopes declarations occurrences stays = record {
  default = None;
  is_default = tt;
  declarations = declarations ∙ sym (append-nil old.declarations.items);
  occurrences = occurrences;
  keeps = Keeps-same (walk_names old) (walk_names new) names;
  once = λ once. subst IsOnce (sym names) once;
  scopes = scopes ∙ sym (append-nil (scopes_of old)) ∙ ap (λ x. scopes_of old ++ option_to_list x) (sym makes_none);
  way = way ∙ ap (λ w. cond (d.is_pattern head) old.inner.way w) (sym (ap (λ t. t.0) (asks old.inner.variable old.inner.is_default false k.Block 0)));
  variable = bare.variable ∙ sym (ap (λ t. t.1.0) (asks None false (is_in_field old.inner.head field) k.Block 0));
  block = bare.block ∙ ap kind_named (sym (ap (λ t. t.1.1.1.0) (asks None false false k.Block 0)));
  defaults = bare.default ∙ sym (ap (λ t. t.1.1.1.1.0) (asks None false false k.Block 0));
  heads = λ f. ap (λ x. is_in_field x f) bare.head ∙ sym (ap (λ t. t.1.1.1.1.1.0) (asks None false false k.Block f));
  left = bare.left ∙ sym (ap (λ t. t.1.1.1.1.1.1.0) (asks None false false k.Block 0));
  around = around;
  own = bare.own ∙ ap (option_map (λ _. length (scopes_of old))) (sym makes_none);
  nodes = nodes;
  stays = stays;
}
  where
    asks : (v : Option Way) (b c : Bool) (kind : ScopeKind) (f : ℕ) → asked head v b c kind field f [] ≡ nothing
    asks v b c kind f = quiet-asks head v b c kind field f [] quiet

    makes_none : scope_made old.inner place field head ≡ None
    makes_none = ap (option_map (in_scope place (scope_in old.inner field))) (ap (λ t. t.1.1.0) (asks None old.inner.is_default false old.inner.block 0))

-- it is one more of which the same is known
pub one-more : (old new : ScopeWalk) → new.inner ≡ old.inner → new.more ≡ old.more + 1 → new.outer.items ≡ old.outer.items → nodes_open new ≡ new.inner ∷ nodes_open old
one-more old new inner more outer =
    (λ j. repeated (more j) (inner j) (inner j ∷ one_by_one (reverse (outer j)))) ∙ next old.more ∙ ap (λ x. x ∷ nodes_open old) (sym inner)
  where
    next : (n : ℕ) → repeated (n + 1) old.inner (old.inner ∷ one_by_one (reverse old.outer.items)) ≡ old.inner ∷ repeated n old.inner (old.inner ∷ one_by_one (reverse old.outer.items))
    next n = let e : n + 1 ≡ suc n = omega arith in ap (λ m. repeated m old.inner (old.inner ∷ one_by_one (reverse old.outer.items))) e

pub goes-on : (old new : ScopeWalk) (place field : ℕ) (head : Head) → is_quiet head ≡ true → InheritsOpen head old.inner → new.inner ≡ old.inner → new.more ≡ old.more + 1 → new.outer.items ≡ old.outer.items → walk_names new ≡ walk_names old → scopes_of new ≡ scopes_of old → new.declarations.items ≡ old.declarations.items → new.occurrences.items ≡ old.occurrences.items → StaysInWalk old new → BeginsNode old new place field head false
goes-on old new place field head quiet alike inner more outer names scopes declarations occurrences stays =
    quiet-begins old new place field head quiet (subst IsBare (sym inner) alike.bare) (ap (λ (x : Open). x.way) inner ∙ sym alike.way)
    (ap (λ (x : Open). x.around) inner ∙ ap (λ x. scope_within x old.inner.around (old.inner.leaves_first_out && field == 0)) (sym alike.bare.own))
    (one-more old new inner more outer) names scopes declarations occurrences stays

-- a node is put in front of those that are open
pub one-pushed : (old new : ScopeWalk) (node : Open) → new.inner ≡ node → new.more ≡ 0 → new.outer.items ≡ old.outer.items ++ record { node = old.inner; more = old.more } ∷ [] → nodes_open new ≡ node ∷ nodes_open old
one-pushed old new node inner more outer =
    (λ j. repeated (more j) (inner j) (inner j ∷ one_by_one (reverse (outer j))))
    ∙ ap (λ l. node ∷ one_by_one l) (reverse-append old.outer.items (record { node = old.inner; more = old.more } ∷ []))

pub quiet-opens : (old new : ScopeWalk) (place field : ℕ) (head : Head) (node : Open) → is_quiet head ≡ true → IsBare node → node.way ≡ cond (d.is_pattern head) old.inner.way None → node.around ≡ scope_in old.inner field → Opens old new node → BeginsNode old new place field head false
quiet-opens old new place field head node quiet bare way around its =
    quiet-begins old new place field head quiet (subst IsBare (sym its.inner) bare) (ap (λ (x : Open). x.way) its.inner ∙ way) (ap (λ (x : Open). x.around) its.inner ∙ around)
    (its.nodes ∙ ap (λ x. x ∷ nodes_open old) (sym its.inner)) its.names its.scopes its.declarations its.occurrences its.stays
