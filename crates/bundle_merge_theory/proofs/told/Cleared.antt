-- Contexts and notes do not matter to marks: a cleared part has the same marks, by whatever notes.
-- What a statement declares at the top of a module is no imported name, for it would be declared
-- twice.
-- What a walk does not take of its steps does not matter: without the steps of what follows it
-- makes the same.
use Rattle.std.proofs.Common.{◌≡◌, ℕ, zero, suc, true, false, is_none, List, [], ◌∷◌, ◌++◌, Option, Some, None, option_map, refl, ap, sym, ◌∙◌, subst, if◌then◌else◌, ◌⊎◌, inl, inr, ◌<◌, ◌==◌, Bool, not, cond, ◌&&◌, ◌||◌, bytes_eq, ne_eqb, find, option_and_then, arith, drop}
use Rattle.std.specs.Prelude.{Contains, slice_get}
use Rattle.std.specs.List.{list_any, AllZip, list_all}
use Rattle.std.proofs.lemmas.Bool.{false≢true, true≢false, or_left, or_right, and_from, cases_order}
use Rattle.std.proofs.lemmas.Option.{same_Some, none-some}
use Rattle.std.proofs.lemmas.Slice.Eq.{bytes_eq-Decides}
use Rattle.std.proofs.lemmas.List.{append_cancel_right}
use Rattle.bundle_syntax.specs.Item as h
use Rattle.bundle_syntax.specs.Item.{Item, Head}
use Rattle.bundle_syntax.specs.declared.piece.Role.TheVariants as r
use Rattle.bundle_syntax.specs.declared.piece.Role.TheVariants.{Binding}
use Rattle.bundle_rules.specs.Nodes.{Text}
use Rattle.bundle_rules.specs.Meaning.{Meant, Mark, plain}
use Rattle.bundle_rules.specs.Statements.{declaration_head}
use Rattle.bundle_rules.specs.Cleared.{cleared_head, cleared}
use Rattle.bundle_rules.specs.Places.{Spot, Occurrence, in_field as in_field_doubled, spot_before, occurrence_of, occurrence_at, is_binding}
use Rattle.bundle_rules.specs.Scopes.{Es, Scope, Top, same_scope, scopes_around}
use Rattle.bundle_rules.specs.Declarations.{BySymbol, Way, Name, Declared, declared_by, declaration_of, way_of, declared, names_agree}
use Rattle.bundle_rules.specs.Homes.{taker, from_taker, parameters_of, joins_parameter, is_parameter, home_beside, home_of, binds}
use Rattle.bundle_rules.specs.Denotes.{Bound, bound_in, own_or_found, denoted_of}
use Rattle.bundle_rules.specs.Doubled.{is_lexical, stands_beside, passes_scope_of, excludes, clash, first_doubled}
use Rattle.bundle_rules.specs.Entries.{ImportEntry, imports_of, import_of}
use Rattle.bundle_rules.specs.Idents.{Ident}
use Rattle.bundle_rules.specs.Marks as m
use Rattle.bundle_tree_places.specs.Edits.{Around, Anywhere, node, binding}
use Rattle.bundle_tree_places.specs.Stated.{is_in_statement}
use Rattle.bundle_tree_rebuild.specs.declared.rewrite.Whole.{Whole}
use Rattle.bundle_tree_rebuild.specs.declared.rewrite.Whole.TheVariants.{Alone, Reads, Call}
use Rattle.bundle_tree_rebuild.specs.Becomes as becomes
use Rattle.bundle_tree_rebuild.specs.Becomes.{behind_word, behind_reads, is_end, are_reads, is_one_string, is_literal_call, Becomes, stays as stays_truncated, name_for_member, name_for_call}
use Rattle.bundle_scope_names.proofs.HomesLemmas.{find-passes as found_passes}
use Rattle.bundle_tree_rebuild.specs.Work.{Step, Work, upcoming, after}
use Rattle.bundle_link_index.proofs.AskedLemmas.{found as found-there}
use Rattle.bundle_link.proofs.ClearedNodes.{cleared-append}
use Rattle.bundle_link.specs.Nested.{AreNodes}
use Rattle.bundle_merge_theory.specs.noted.Marked as in_marked
use Rattle.bundle_merge_theory.specs.noted.Marked.{Note, Marked, node_stays, meant_for_member, meant_for_call, node_marks, shorthand_marks}
use Rattle.bundle_merge_theory.specs.noted.Stated as g
use Rattle.bundle_merge_theory.specs.noted.Stated.{MarkedStated, is_default_head, states_itself, node_in_field}
use Rattle.bundle_merge_theory.proofs.walked.Clearing.{twice, head_alike, node-cleared as node_cleared, first_kept}
use Rattle.bundle_merge_theory.proofs.walked.Keeping.{alike}
use Rattle.bundle_merge_theory.specs.walked.Rewrites as rewrites
use Rattle.bundle_merge_theory.specs.walked.Rewrites.{Rewrites, is_in_no_specifier, AreOwn, Cover, KeepsSymbol, is_own_item}
use Rattle.bundle_merge_theory.specs.walked.Stated
use Rattle.bundle_merge_theory.specs.walked.Stated.{StatesList}
use Rattle.bundle_merge_theory.proofs.walked.NameLemmas.{node_names}
use Rattle.bundle_merge_theory.proofs.walked.Rewriting.{fits, own_inside, moved_names, moved_own, default_parts}
use Rattle.bundle_merge_theory.proofs.told.Calls.{declared_there}
use Rattle.bundle_merge_theory.proofs.told.Imported.{Imports, imports, imported, doubled}
use Rattle.bundle_merge_theory.proofs.own.Stated.{top-parameter as no_parameter}

-- ---- cleared

-- Static reads and literal calls.

word_cleared : (o : Option (List Item)) →
    behind_word (option_map cleared o) ≡ option_map cleared (behind_word o)
word_cleared (Some (h.Open field (h.IdentName word) ∷ h.Close ∷ h.Close ∷ rest)) = refl
word_cleared _ = refl

reads_cleared : (count : ℕ) (items : List Item) →
    behind_reads count (cleared items) ≡ option_map cleared (behind_reads count items)
reads_cleared zero (h.Ident field x ctxt r.Reference ∷ rest) = refl
reads_cleared (suc count) (h.Open field h.MemberExpr ∷ rest) =
    ap behind_word (reads_cleared count rest) ∙ word_cleared (behind_reads count rest)
reads_cleared _ _ = refl

end_cleared : (o : Option (List Item)) → is_end (option_map cleared o) ≡ is_end o
end_cleared None = refl
end_cleared (Some []) = refl
end_cleared (Some (x ∷ rest)) = refl

pub are_reads-cleared : (count : ℕ) (inside : List Item) →
    are_reads count (cleared inside) ≡ are_reads count inside
are_reads-cleared count inside =
    ap (λ items. is_end (behind_reads count items)) (sym (node_cleared 0 h.MemberExpr inside))
    ∙ ap is_end (reads_cleared count (node 0 h.MemberExpr inside))
    ∙ end_cleared (behind_reads count (node 0 h.MemberExpr inside))

one_string-cleared : (items : List Item) → is_one_string (cleared items) ≡ is_one_string items
one_string-cleared
    (h.Open field (h.ExprOrSpread false) ∷ h.Open inner (h.Str value raw) ∷ h.Close ∷ h.Close
    ∷ []) =
    refl
one_string-cleared _ = refl

pub literal_call-cleared : (inside : List Item) →
    is_literal_call (cleared inside) ≡ is_literal_call inside
literal_call-cleared (h.Ident field x ctxt r.Reference ∷ arguments) = one_string-cleared arguments
literal_call-cleared _ = refl

member-cleared : (next : Option Note) (inside : List Item) →
    meant_for_member next (cleared inside) ≡ meant_for_member next inside
member-cleared None inside = refl
member-cleared (Some note) inside = by note.whole
  where
    by : (whole : Whole) →
        in_marked.meant_by_reads note.meant whole (cleared inside)
        ≡ in_marked.meant_by_reads note.meant whole inside
    by Alone = refl
    by Call = refl
    by (Reads count) =
        ap (λ b. if b then Some note.meant else None) (are_reads-cleared count inside)

call-cleared : (next : Option Note) (inside : List Item) →
    meant_for_call next (cleared inside) ≡ meant_for_call next inside
call-cleared None inside = refl
call-cleared (Some note) inside = by note.whole
  where
    by : (whole : Whole) →
        in_marked.meant_by_call note.meant whole (cleared inside) ≡ in_marked.meant_by_call note.meant whole inside
    by Alone = refl
    by (Reads count) = refl
    by Call = ap (λ b. if b then Some note.meant else None) (literal_call-cleared inside)

-- Heads.

pub head_stays : (meta : Option Meant) (next : Option Note) (head : Head) (inside : List Item) →
    node_stays meta next (cleared_head head) (cleared inside) ≡ node_stays meta next head inside
head_stays meta next (h.ImportDecl its) inside = refl
head_stays meta next (h.NamedExport its) inside = refl
head_stays meta next (h.ExportAll its) inside = refl
head_stays meta next (h.VarDecl kind its) inside = refl
head_stays meta next h.MemberExpr inside = ap is_none (member-cleared next inside)
head_stays meta next h.CallExpr inside = ap is_none (call-cleared next inside)
head_stays meta next (h.MetaPropExpr kind) inside = refl
head_stays meta next h.AssignPatProp inside = refl
head_stays meta next _ inside = refl

-- Parts.

module _ (meta : Option Meant) where
  cleared_node : {around : Around} {notes rest : List Note} (field : ℕ) (head : Head)
      (inside : List Item) (marks : List Mark) →
      Marked meta around notes (node field (cleared_head head) (cleared inside))
      (node_marks field (cleared_head head) marks) rest →
      Marked meta around notes (cleared (node field head inside)) (node_marks field head marks) rest
  cleared_node {around = around} {notes = notes} {rest = rest} field head inside marks one =
      subst (λ list. Marked meta around notes list (node_marks field head marks) rest)
      (sym (node_cleared field head inside))
      (subst
      (λ its.
      Marked meta around notes (node field (cleared_head head) (cleared inside))
      (m.Begins field its ∷ (marks ++ m.Ends ∷ [])) rest)
      (twice head) one)

  default_cleared : (field : ℕ) (x : Text) (meant : Meant) (default : List Item)
      (marks : List Mark) →
      shorthand_marks field x meant (cleared default) marks
      ≡ shorthand_marks field x meant default marks
  default_cleared field x meant [] marks = refl
  default_cleared field x meant (first ∷ more) marks = refl

  pub marked_cleared : {around : Around} {notes rest : List Note} {items : List Item}
      {marks : List Mark} → Marked meta around notes items marks rest →
      Marked meta around notes (cleared items) marks rest
  marked_cleared in_marked.Nothing = in_marked.Nothing
  marked_cleared {around = around} {notes = notes} {rest = rest}
      (in_marked.Joined {first = first} {second = second} {marks = marks} {more = more} one two) =
      subst (λ list. Marked meta around notes list (marks ++ more) rest)
      (sym (cleared-append first second)) (in_marked.Joined (marked_cleared one) (marked_cleared two))
  marked_cleared (in_marked.Hole field) = in_marked.Hole field
  marked_cleared (in_marked.Word field x ctxt role plain) = in_marked.Word field x 0 role plain
  marked_cleared (in_marked.Name around field x ctxt role occurs) = in_marked.Name around field x 0 role occurs
  marked_cleared {notes = notes} (in_marked.Inside field head {inside = inside} {marks = marks} it_stays
      one) =
      cleared_node field head inside marks
      (in_marked.Inside field (cleared_head head)
      (head_stays meta (in_marked.next_note notes) head inside ∙ it_stays)
      (alike (head_alike head inside) (marked_cleared one)))
  marked_cleared {around = around} {notes = notes} {rest = rest}
      (in_marked.Kept field head first {inside = inside} {more = more} {marks = marks}
      {more_marks = more_marks} keeps one two) =
      cleared_node field head (node first h.MemberExpr inside ++ more)
      (node_marks first h.MemberExpr marks ++ more_marks)
      (subst (λ list. Marked meta around notes (node field (cleared_head head) list)
      (node_marks field (cleared_head head) (node_marks first h.MemberExpr marks ++ more_marks))
      rest)
      (sym
      (cleared-append (node first h.MemberExpr inside) more
      ∙ ap (λ list. list ++ cleared more) (node_cleared first h.MemberExpr inside)))
      (in_marked.Kept field (cleared_head head) first (first_kept head first keeps) (marked_cleared one)
      (marked_cleared two)))
  marked_cleared {around = around}
      (in_marked.Shorthand {note = note} {notes = notes} {rest = rest} field x ctxt role
      {default = default} {marks = marks} occurs one) =
      subst
      (λ list.
      Marked meta around (note ∷ notes) list (shorthand_marks field x note.meant default marks)
      rest)
      (sym (node_cleared field h.AssignPatProp (binding None 0 x ctxt role ++ default)))
      (subst (λ list. Marked meta around (note ∷ notes)
      (node field h.AssignPatProp (binding None 0 x 0 role ++ cleared default)) list rest)
      (default_cleared field x note.meant default marks)
      (in_marked.Shorthand field x 0 role occurs (marked_cleared one)))
  marked_cleared {around = around} {rest = rest}
      (in_marked.OfReads {meant = meant} field count inside reads) =
      subst
      (λ list.
      Marked meta around (record { meant = meant; whole = Reads count } ∷ rest) list
      (m.Name field meant ∷ []) rest)
      (sym (node_cleared field h.MemberExpr inside))
      (in_marked.OfReads field count (cleared inside) (are_reads-cleared count inside ∙ reads))
  marked_cleared {around = around} {rest = rest} (in_marked.OfCall {meant = meant} field inside calls) =
      subst
      (λ list.
      Marked meta around (record { meant = meant; whole = Call } ∷ rest) list
      (in_marked.call_marks field meant) rest)
      (sym (node_cleared field h.CallExpr inside))
      (in_marked.OfCall field (cleared inside) (literal_call-cleared inside ∙ calls))
  marked_cleared (in_marked.OfMeta field meant is) = in_marked.OfMeta field meant is

  -- What a top item states.

  pub itself_cleared : (head : Head) → states_itself (cleared_head head) ≡ states_itself head
  itself_cleared (h.ImportDecl its) = refl
  itself_cleared (h.NamedExport its) = refl
  itself_cleared (h.ExportAll its) = refl
  itself_cleared (h.VarDecl kind its) = refl
  itself_cleared _ = refl

  default_head : (head : Head) → is_default_head head ≡ true → cleared_head head ≡ head
  default_head h.FnExpr is = refl
  default_head h.ClassExpr is = refl
  default_head _ is = cc

  pub in_field-cleared : (field : ℕ) (items : List Item) →
      cleared (node_in_field field items) ≡ node_in_field field (cleared items)
  in_field-cleared field [] = refl
  in_field-cleared field (h.Open old head ∷ rest) = refl
  in_field-cleared field (h.Ident old x ctxt role ∷ rest) = refl
  in_field-cleared field (h.Hole old ∷ rest) = refl
  in_field-cleared field (h.Close ∷ rest) = refl

  pub default_node : (field its : ℕ) (head : Head) (body : List Item) → is_default_head head ≡ true →
      cleared (node field h.ExportDefaultDecl (node its head body))
      ≡ node field h.ExportDefaultDecl (node its head (cleared body))
  default_node field its head body is =
      node_cleared field h.ExportDefaultDecl (node its head body)
      ∙ ap (node field h.ExportDefaultDecl)
      (node_cleared its head body ∙ ap (λ k. node its k (cleared body)) (default_head head is))

  pub stated_cleared : {default : Meant} {notes rest : List Note} {items : List Item}
      {marks : List Mark} → MarkedStated meta default notes items marks rest →
      MarkedStated meta default notes (cleared items) marks rest
  stated_cleared {default = default} {notes = notes} {rest = rest} {marks = marks}
      (g.Itself field head inside is marked) =
      subst (λ list. MarkedStated meta default notes list marks rest)
      (sym (node_cleared field head inside))
      (g.Itself field (cleared_head head) (cleared inside) (itself_cleared head ∙ is)
      (subst (λ list. Marked meta Anywhere notes list marks rest) (node_cleared field head inside)
      (marked_cleared marked)))
  stated_cleared {default = default} {notes = notes} {rest = rest} {marks = marks}
      (g.Declared field inside marked) =
      subst (λ list. MarkedStated meta default notes list marks rest)
      (sym (node_cleared field h.ExportDecl inside))
      (g.Declared field (cleared inside) (marked_cleared marked))
  stated_cleared {default = default} {notes = notes} {rest = rest}
      (g.Value {marks = marks} field value marked) =
      subst (λ list. MarkedStated meta default notes list (g.constant_marks default marks) rest)
      (sym (node_cleared field h.ExportDefaultExpr value))
      (g.Value field (cleared value)
      (subst (λ list. Marked meta Anywhere notes list marks rest) (in_field-cleared 1 value)
      (marked_cleared marked)))
  stated_cleared {default = default} {notes = notes} {rest = rest}
      (g.Named {marks = marks} field its head own x ctxt role more is marked) =
      subst
      (λ list.
      MarkedStated meta default notes list (node_marks 0 (declaration_head head) marks) rest)
      (sym (default_node field its head (h.Ident own x ctxt role ∷ more) is))
      (g.Named field its head own x 0 role (cleared more) is (marked_cleared marked))
  stated_cleared {default = default} {notes = notes} {rest = rest}
      (g.Nameless {marks = marks} field its head own first more is marked) =
      subst
      (λ list.
      MarkedStated meta default notes list
      (node_marks 0 (declaration_head head) (m.Name 0 default ∷ marks)) rest)
      (sym (default_node field its head (h.Open own first ∷ more) is))
      (g.Nameless field its head own (cleared_head first) (cleared more) is (marked_cleared marked))

-- ---- what belongs to the top stands there

no_parameters : (name : Name) (all : List Declared) → list_any (is_parameter Top name) all ≡ true →
    ⊥
no_parameters name [] any = false≢true any
no_parameters name (d ∷ all) any =
    no_parameters name all
    (sym (ap (λ b. b || list_any (is_parameter Top name) all)
    (no_parameter (taker d) (names_agree d.name name))) ∙ any)

pub taker_top : (all : List Declared) (d : Declared) → home_of all d ≡ Top → taker d ≡ Top
taker_top all d home = by (joins_parameter d.by) home
  where
    chosen : (scope : Scope) (b : Bool) → list_any (is_parameter scope d.name) all ≡ b →
        cond b scope (taker d) ≡ Top → taker d ≡ Top
    chosen scope true is e =
        absurd (no_parameters d.name all (ap (λ s. list_any (is_parameter s d.name) all) (sym e)
        ∙ is))
    chosen scope false is e = e

    beside : (o : Option Scope) → home_beside all d o ≡ Top → taker d ≡ Top
    beside None e = e
    beside (Some scope) e = chosen scope (list_any (is_parameter scope d.name) all) refl e

    by : (b : Bool) → cond b (home_beside all d (parameters_of (from_taker d.by d.scopes)))
        (taker d) ≡ Top → taker d ≡ Top
    by true e = beside (parameters_of (from_taker d.by d.scopes)) e
    by false e = e

-- ---- beside an import
excluded : (q : ℕ) (x : Text) (d : Declared) → taker d ≡ Top → excludes (imported q x) d ≡ true
excluded q x d top =
    or_left (is_lexical (imported q x) && stands_beside (imported q x) d)
    (passes_scope_of (imported q x) d)
    (and_from (is_lexical (imported q x)) (stands_beside (imported q x) d) refl
    (or_left (same_scope (taker d) Top) _ (ap (λ s. same_scope s Top) top)))

names_same : (x : Text) → names_agree (plain x) (plain x) ≡ true
names_same x = and_from (bytes_eq x x) true ((bytes_eq-Decides x x).1 refl) refl

clashes : (a b : Declared) → names_agree a.name b.name ≡ true → (a.place == b.place) ≡ false →
    (excludes a b || excludes b a) ≡ true → clash a b ≡ true
clashes a b names places both =
    ap (λ p. names_agree a.name b.name && not p && (excludes a b || excludes b a)) places
    ∙ ap (λ n. n && true && (excludes a b || excludes b a)) names
    ∙ both

module _ (xs : List Item) (are : AreNodes xs) where
  abbrev tree : List Item
  tree = h.Open 0 h.Module ∷ (xs ++ h.Close ∷ [])

  pub no_bound_import : first_doubled Es (h.Open 0 h.Module ∷ (xs ++ h.Close ∷ [])) ≡ None →
      (o : Occurrence) → occurrence_at (h.Open 0 h.Module ∷ (xs ++ h.Close ∷ [])) o.place ≡ Some o →
      is_in_statement o.path ≡ true → is_binding o.role ≡ true → (way : Way) →
      way_of o.path ≡ Some way →
      (name : Name) →
      denoted_of BySymbol Es (declared BySymbol Es (h.Open 0 h.Module ∷ (xs ++ h.Close ∷ []))) o
      ≡ Bound Top name →
      (entry : ImportEntry) → import_of (imports_of (h.Open 0 h.Module ∷ (xs ++ h.Close ∷ [])))
      o.sym ≡ Some entry → ⊥
  no_bound_import once o at inside role way way_is name denotes entry bound =
      order (cases_order its.place o.place)
    where
      all : List Declared
      all = declared BySymbol Es tree

      d : Declared
      d = record { place = o.place; name = plain o.sym; by = way; scopes = scopes_around Es o.path }

      declares : declaration_of BySymbol Es o ≡ Some d
      declares =
          ap (λ b. cond b (declared_by o.place (plain o.sym) (scopes_around Es o.path)
          (way_of o.path)) None) role
          ∙ ap (declared_by o.place (plain o.sym) (scopes_around Es o.path)) way_is

      in_d : Contains (declared BySymbol Es tree) d
      in_d = declared_there Es tree o.place o d at declares

      scope_is : (s t : Scope) (n k : Name) → Bound s n ≡ Bound t k → s ≡ t
      scope_is s t n k e = cc

      home : home_of (declared BySymbol Es tree) d ≡ Top
      home =
          scope_is (home_of (declared BySymbol Es tree) d) Top (plain o.sym) name
          (sym (ap (own_or_found (declared BySymbol Es tree) (bound_in (plain o.sym)
          (find (λ s. binds (declared BySymbol Es tree) s (plain o.sym))
          (scopes_around Es o.path)))) declares) ∙ denotes)

      top : taker d ≡ Top
      top = taker_top (declared BySymbol Es tree) d home

      local : entry.local ≡ o.sym
      local =
          (bytes_eq-Decides entry.local o.sym).0
          (found_passes (λ (e : ImportEntry). bytes_eq e.local o.sym) (imports_of tree) entry bound)

      its : Imports xs are o.sym
      its =
          subst (Imports xs are) local
          (imports xs are entry (found-there (λ (e : ImportEntry). bytes_eq e.local o.sym)
          (imports_of tree) entry bound))

      i : Declared
      i = imported its.place o.sym

      apart : its.place ≡ o.place → ⊥
      apart same =
          let far = its.found.place in
          let there : its.found.far ≡ o.place = omega (arith, far, same) in
          let item : slice_get tree o.place ≡ Some (h.Ident 0 o.sym its.ctxt Binding) =
          ap (slice_get tree) (sym there) ∙ its.found.at in
          let spot : spot_before tree o.place ≡ its.spot =
          ap (spot_before tree) (sym there) ∙ its.found.spot_is in
          let same_o : Some (record {
            place = its.spot.place;
            sym = o.sym;
            ctxt = its.ctxt;
            role =
                Binding;
            path = in_field_doubled 0 its.spot.path;
          }) ≡ Some o =
          sym (ap (λ x. option_and_then (occurrence_of (spot_before tree o.place)) x) item
          ∙ ap (λ (s : Spot). occurrence_of s (h.Ident 0 o.sym its.ctxt Binding)) spot) ∙ at in
          let path : in_field_doubled 0 its.spot.path ≡ o.path =
          ap (λ (q : Occurrence). q.path) (same_Some _ o same_o) in
          true≢false (sym inside ∙ ap is_in_statement (sym path) ∙ its.apart)

      order : (its.place ≡ o.place) ⊎ ((its.place < o.place) ⊎ (o.place < its.place)) → ⊥
      order (inl same) = apart same
      order (inr (inl l)) =
          doubled tree (imported its.place o.sym) d once its.found.there in_d l
          (clashes (imported its.place o.sym) d (names_same o.sym) (ne_eqb its.place o.place apart)
          (or_left (excludes (imported its.place o.sym) d) (excludes d (imported its.place o.sym))
          (excluded its.place o.sym d top)))
      order (inr (inr l)) =
          doubled tree d (imported its.place o.sym) once in_d its.found.there l
          (clashes d (imported its.place o.sym) (names_same o.sym)
          (ne_eqb o.place its.place (λ e. apart (sym e)))
          (or_right (excludes d (imported its.place o.sym)) (excludes (imported its.place o.sym) d)
          (excluded its.place o.sym d top)))

-- ---- truncated

-- the same work with other steps
abbrev pub with_steps : Work → List Step → Work
with_steps work steps = record { steps = steps; meta = work.meta; clears_notes = work.clears_notes }

-- what a walk takes of its steps, and that it does the same with these alone
pub record Truncated (around : Around) (work : Work) (before made : List Item) (rest : Work)
    (left others : List Step) : Type 0 where
  pub steps : List Step
  pub is : work.steps ≡ steps ++ others
  pub by : Becomes around (with_steps work steps) before made (with_steps rest left)

-- a node stays
stays-without : (work : Work) (steps others : List Step) → work.steps ≡ steps ++ others →
    (head : Head) (inside : List Item) → stays_truncated work head inside ≡ true →
    stays_truncated (with_steps work steps) head inside ≡ true
stays-without work [] others is (h.VarDecl kind notes) inside it = it
stays-without work [] others is h.MemberExpr inside it = refl
stays-without work [] others is h.CallExpr inside it = refl
stays-without work [] others is (h.MetaPropExpr kind) inside it = it
stays-without work [] others is (h.AssignExpr op) inside it = it
stays-without work [] others is (h.OptChainExpr optional) inside it = it
stays-without work [] others is head inside it = it
stays-without work (step ∷ steps) others is (h.VarDecl kind notes) inside it = it
stays-without work (step ∷ steps) others is h.MemberExpr inside it =
    ap (λ (l : List Step). is_none (name_for_member (slice_get l 0) inside)) (sym is) ∙ it
stays-without work (step ∷ steps) others is h.CallExpr inside it =
    ap (λ (l : List Step). is_none (name_for_call (slice_get l 0) inside)) (sym is) ∙ it
stays-without work (step ∷ steps) others is (h.MetaPropExpr kind) inside it = it
stays-without work (step ∷ steps) others is (h.AssignExpr op) inside it = it
stays-without work (step ∷ steps) others is (h.OptChainExpr optional) inside it = it
stays-without work (step ∷ steps) others is head inside it = it

-- a step that is taken is the first of those that are asked for
taken-first : (work : Work) (step : Step) (left others : List Step) → upcoming work ≡ Some step →
    drop 1 work.steps ≡ left ++ others → work.steps ≡ (step ∷ left) ++ others
taken-first work step left others is behind = go work.steps refl
  where
    go : (steps : List Step) → work.steps ≡ steps → work.steps ≡ (step ∷ left) ++ others
    go [] e = absurd (none-some step (sym (ap (λ (l : List Step). slice_get l 0) e) ∙ is))
    go (first ∷ more) e =
        let one : Some first ≡ Some step = sym (ap (λ (l : List Step). slice_get l 0) e) ∙ is in
        let same : first ≡ step = cc in
        e
        ∙ ap (λ (f : Step). f ∷ more) same
        ∙ ap (λ l. step ∷ l) (sym (ap (λ (l : List Step). drop 1 l) e) ∙ behind)

pub truncated : {around : Around} {work rest : Work} {before made : List Item} →
    Rewrites around work before made rest → (left others : List Step) →
    rest.steps ≡ left ++ others → Truncated around work before made rest left others
truncated rewrites.Nothing left others is = record { steps = left; is = is; by = becomes.Nothing }
truncated (rewrites.Joined one two) left others is =
    let back = truncated two left others is in
    let front = truncated one back.steps others back.is in
    record { steps = front.steps; is = front.is; by = becomes.Joined front.by back.by }
truncated (rewrites.Hole field) left others is =
    record { steps = left; is = is; by = becomes.Hole field }
truncated (rewrites.Word field x ctxt role plain) left others is =
    record { steps = left; is = is; by = becomes.Word field x ctxt role plain }
truncated (rewrites.Name around {work = work} field x ctxt role step occurs free takes) left others is =
    record {
      steps = step ∷ left;
      is = taken-first work step left others takes.is is;
      by = becomes.Name around {work = with_steps work (step ∷ left)} field x ctxt role occurs;
    }
truncated {work = work} (rewrites.Inside field head {inside = inside} it_stays one) left others is =
    let within = truncated one left others is in
    record {
      steps = within.steps;
      is = within.is;
      by =
          becomes.Inside field head (stays-without work within.steps others within.is head inside it_stays)
          within.by;
    }
truncated (rewrites.Declaration field kind notes one) left others is =
    let within = truncated one left others is in
    record { steps = within.steps; is = within.is; by = becomes.Declaration field kind notes within.by }
truncated (rewrites.Kept field head first keeps one two) left others is =
    let back = truncated two left others is in
    let front = truncated one back.steps others back.is in
    record {
      steps = front.steps;
      is = front.is;
      by =
          becomes.Kept field head first keeps front.by back.by;
    }
truncated (rewrites.Shorthand {work = work} field x ctxt role step occurs takes one) left others is =
    let within = truncated one left others is in
    record {
      steps = step ∷ within.steps;
      is = taken-first work step within.steps others takes.is within.is;
      by = becomes.Shorthand {work = with_steps work (step ∷ within.steps)} field x ctxt role occurs
          within.by;
    }
truncated (rewrites.OfReads {work = work} field name inside found) left others is =
    by (upcoming work) refl found
  where
    by : (o : Option Step) → upcoming work ≡ o → name_for_member o inside ≡ Some name →
        Truncated Anywhere work (node field h.MemberExpr inside) (becomes.reference field name)
        (after work) left others
    by None e f = absurd (none-some name f)
    by (Some step) e f = record {
      steps = step ∷ left;
      is = taken-first work step left others e is;
      by = becomes.OfReads {work = with_steps work (step ∷ left)} field name inside f;
    }
truncated {around = around} (rewrites.OfCall {work = work} field name inside found) left others is =
    by (upcoming work) refl found
  where
    by : (o : Option Step) → upcoming work ≡ o → name_for_call o inside ≡ Some name →
        Truncated around work (node field h.CallExpr inside)
        (node field h.CallExpr (becomes.reference 0 name)) (after work) left others
    by None e f = absurd (none-some name f)
    by (Some step) e f = record {
      steps = step ∷ left;
      is = taken-first work step left others e is;
      by = becomes.OfCall {work = with_steps work (step ∷ left)} field name inside f;
    }
truncated (rewrites.OfMeta field kind name found) left others is =
    record { steps = left; is = is; by = becomes.OfMeta field kind name found }

-- a walk with the steps of its own names alone
pub becomes_alone : {around : Around} {work rest : Work} {before made : List Item} →
    Becomes around work before made rest → is_in_no_specifier around ≡ true → AreOwn before →
    (steps behind : List Step) → work.steps ≡ steps ++ behind → Cover steps before →
    Becomes around (with_steps work steps) before made (with_steps rest [])
becomes_alone {around = around} {work = work} {rest = rest} {before = before} {made = made} one free
    own steps behind is cover =
    let its = fits one free own steps behind is cover in
    let alone = truncated its.by [] behind its.left in
    subst (λ taken. Becomes around (with_steps work taken) before made (with_steps rest []))
    (append_cancel_right alone.steps steps behind (sym alone.is ∙ is)) alone.by

-- what an item states with them
pub states_alone : {work : Work} {name : Ident} {item made : List Item} →
    StatesList work name item made → AreOwn item → (steps behind : List Step) →
    work.steps ≡ steps ++ behind → Cover steps item →
    StatesList (with_steps work steps) name item made
states_alone (Stated.StatementStates field head part itself one) own steps behind is cover =
    Stated.StatementStates field head part itself (becomes_alone one refl own steps behind is cover)
states_alone (Stated.DeclarationStates field part one) own steps behind is cover =
    Stated.DeclarationStates field part
    (becomes_alone one refl (own_inside field h.ExportDecl part own).1 steps behind is
    (subst (λ names. AllZip KeepsSymbol steps names) (node_names field h.ExportDecl part) cover))
states_alone (Stated.ValueStates field first more one) own steps behind is cover =
    let part_own = (own_inside field h.ExportDefaultExpr (first ∷ more) own).1 in
    Stated.ValueStates field first more
    (becomes_alone one refl
    (ap (λ b. b && list_all is_own_item more) (moved_own 1 first) ∙ part_own) steps behind is
    (subst (λ names. AllZip KeepsSymbol steps names)
    (node_names field h.ExportDefaultExpr (first ∷ more) ∙ sym (moved_names 1 first more)) cover))
states_alone (Stated.OwnStates field inner name_field x ctxt role head body default one) own steps behind
    is cover =
    let parts =
    default_parts steps field inner head (h.Ident name_field x ctxt role ∷ body) own cover in
    Stated.OwnStates field inner name_field x ctxt role head body default
    (becomes_alone one refl parts.0 steps behind is parts.1)
states_alone (Stated.DefaultStates field inner first_field head first more default one) own steps behind
    is cover =
    let parts =
    default_parts steps field inner head (h.Open first_field first ∷ more) own cover in
    Stated.DefaultStates field inner first_field head first more default
    (becomes_alone one refl parts.0 steps behind is parts.1)
