-- A merged tree that is named in one go is the tree without keywords, named.
-- A merged bundle stays one when it is tidied: without its notes and the contexts of its words it
-- has the same marks, and its names denote what they denoted.
use Rattle.std.proofs.Common.{◌≡◌, ℕ, zero, suc, Bool, true, false, cond, List, [], ◌∷◌, ◌++◌, Option, Some, None, bytes_eq, codes, map, length, refl, ap, ap₂, sym, ◌∙◌, subst, arith, length-append, slice_get, option_map}
use Rattle.std.specs.Prelude.{IsTrue, is_some, decimal}
use Rattle.std.specs.List.{AllZip}
use Rattle.std.proofs.lemmas.Slice.Eq.{bytes_eq-Decides}
use Rattle.std.proofs.lemmas.Option.{same_Some}
use Rattle.bundle_syntax.specs.Item as h
use Rattle.bundle_syntax.specs.Item.{Item, Head}
use Rattle.bundle_syntax.specs.declared.piece.Role.{Role}
use Rattle.bundle_syntax.specs.declared.piece.Role.TheVariants
use Rattle.bundle_rules.specs.Places.{Occurrence, occurrences}
use Rattle.bundle_rules.specs.Scopes.{Es, Scope, Wrapper, Top, Inner, scopes_around}
use Rattle.bundle_rules.specs.Declarations.{ByContext, Name, Declared, declared}
use Rattle.bundle_rules.specs.Denotes.{Denoted, Bound, Global, denoted_of, denotations, IsResolved, denoted_at}
use Rattle.bundle_rules.specs.Doubled.{first_doubled}
use Rattle.bundle_rules.specs.Keywords.{is_keyword, keyword_free, keyword_free_of, has_right_context}
use Rattle.bundle_rules.specs.Renaming.{Numbering, numbered, symbol_after, IsNumbering}
use Rattle.bundle_rules.specs.Cleared.{cleared_item, cleared, without_note, without_notes, cleared_head, tidied}
use Rattle.bundle_rules.specs.Idents.{Ident, ident_of, idents}
use Rattle.bundle_rules.specs.Rebuilds.{changes_to, with_idents}
use Rattle.bundle_rules.specs.Renamed.{HasNamesOnly, IsRebuilt, IsRidOfKeywords, IsNamed}
use Rattle.bundle_rules.proofs.PathLemmas.{cleared_occurrence, occurrences-cleared, cleared_path}
use Rattle.bundle_rules.specs.Nodes.{Text, flat}
use Rattle.bundle_rules.specs.Statements.{no_notes}
use Rattle.bundle_rules.specs.Meaning.{Meant, Mark}
use Rattle.bundle_rules.specs.Program.{Program}
use Rattle.bundle_rules.specs.Bundle.{Cause, Hooks, AsModule, IsBundle, IsLaidOut}
use Rattle.bundle_rules.proofs.PlacesLemmas.{occurrences-at}
use Rattle.bundle_rules.proofs.DenotesLemmas.{scopes_around-cleared}
use Rattle.bundle_rules.specs.Marks as m
use Rattle.bundle_tree_places.specs.Edits.{Around, node, around_in, binding, is_occurrence}
use Rattle.bundle_scope_names.proofs.TreeLemmas.{map-map as map-twice}
use Rattle.bundle_scope_names.proofs.naming_rule.Tables.{IsIn, map-congr, in-rest, all-are, declarations, declared-named}
use Rattle.bundle_scope_names.proofs.naming_rule.Clash.{moved, IsInjective, HasPlainKeys}
use Rattle.bundle_scope_names.proofs.naming_rule.Rebuilt.{place-injective, ArePlain, named_after, zip, faithful-alike, faithful-resolved, faithful-names, faithful-plain}
use Rattle.bundle_scope_names.proofs.naming_rule.Transfer.{Calling, recalled, recalled_as, recalled_denoted, is_written_one, Recalls, IsFaithful, IsRecalled, denoted-recalled, declarations-recalled, named_right_by}
use Rattle.bundle_scope_names.proofs.naming_rule.Called.{called-numbers}
use Rattle.bundle_scope_names.proofs.naming_rule.Theorem.{IsUndoubled, none-doubled, faithful-undoubled, faithful-keys, cleared-twice, is-named}
use Rattle.bundle_merge_theory.proofs.walked.Clearing.{twice, first_kept as first-kept}
use Rattle.bundle_merge_theory.specs.noted.Marked as in_marked
use Rattle.bundle_merge_theory.specs.noted.Marked.{Note, Marked, node_stays, marks_there, node_marks, shorthand_marks}
use Rattle.bundle_merge_theory.specs.noted.Listed.{Other, AreListed}
use Rattle.bundle_merge_theory.specs.noted.Agrees.{IsListing}
use Rattle.bundle_merge_theory.specs.walked.Renaming.{AreAlone, ItemMeaning, HasMarks}
use Rattle.bundle_merge_theory.proofs.noted.Listing.{is_listing}
use Rattle.bundle_merge_theory.proofs.walked.Keeping.{alike, alike_inside}
use Rattle.bundle_merge_theory.proofs.walked.Renaming.{alone_left, alone_stays, alone_alone}
use Rattle.bundle_merge_theory.specs.joined.Joined.{joined_items}
use Rattle.bundle_merge_theory.proofs.grouped.Theorem.{denoted-tidied, tidied-good_order, cleared-tidied as cleared-same}
use Rattle.bundle_merge_theory.proofs.composed.Keywords.{name_in, own-context, layout-stays, body-length, is-bundle}
use Rattle.bundle_merge_theory.proofs.composed.Becomings.{own-symbol}
use Rattle.bundle_merge_theory.specs.finished.Twice.{IsEditable, AreNotBack}
use Rattle.bundle_merge_theory.specs.finished.Finished.{denoted_by_table, called_idents, recall, IsRightContext, IsKeywordCalling, called_place, final_symbol, final_idents, finished}
use Rattle.bundle_merge_theory.proofs.finished.Twice.{Again, once-is-twice, tidied-append, tidied-node, tidied-name}
use Rattle.bundle_merge_theory.specs.composed.Noted.{NotedItem, AsWhole, AsFunction, function_ends, pairing_of}
use Rattle.bundle_merge_theory.specs.composed.Names.{denoted_in_tree}
use Rattle.bundle_merge_theory.specs.composed.Becoming.{placed_scope, StandsInMoved, Becoming}
use Rattle.bundle_merge_theory.specs.composed.Functions.{load_function_front, IsOfForm, whole_form, function_form}
use Rattle.bundle_merge_theory.proofs.composed.Fronts.{front-blank, function-parts}
use Rattle.bundle_merge_theory.proofs.composed.Remade.{Remade, remade_whole, remade_function, AllOfForm, AllRemade}
use Rattle.bundle_merge_theory.proofs.composed.Counting.{ModuleRemade}
use Rattle.bundle_merge_theory.proofs.composed.Naming.{IsStillNoted, still-noted}
use Rattle.bundle_merge_theory.proofs.composed.Theorem.{IsWholeBundle}
use Rattle.bundle_merge_theory.proofs.finished.Listing.{listed-tidied}

-- ---- finished

-- Lists.

not-back : (f g : Occurrence → Ident) (os : List Occurrence) →
    ((o : Occurrence) → IsIn os o → bytes_eq o.sym (g o).0 ≡ true → bytes_eq o.sym (f o).0 ≡ true) →
    AreNotBack (map ident_of os) (map f os) (map g os)
not-back f g [] each = tt
not-back f g (o ∷ os) each =
    (each o (0, refl), not-back f g os (λ p at. each p (in-rest o os p at)))

-- Clearing.

note-cleared : (x : Item) → without_note (cleared_item x) ≡ cleared_item x
note-cleared (h.Open field head) = ap (h.Open field) (twice head)
note-cleared (h.Ident field x c role) = refl
note-cleared (h.Hole field) = refl
note-cleared h.Close = refl

pub notes-cleared : (l : List Item) → without_notes (cleared l) ≡ cleared l
notes-cleared [] = refl
notes-cleared (x ∷ l) =
    ap (λ y. y ∷ without_notes (cleared l)) (note-cleared x)
    ∙ ap (λ r. cleared_item x ∷ r) (notes-cleared l)

-- identifiers whose contexts are 0 stay where contexts are cleared
abbrev plainly : Ident → Ident
plainly i = (i.0, 0)

pub idents-cleared : (l : List Item) → idents (cleared l) ≡ map plainly (idents l)
idents-cleared l =
    ap (map ident_of) (occurrences-cleared l)
    ∙ map-twice ident_of cleared_occurrence (occurrences l)
    ∙ sym (map-twice plainly ident_of (occurrences l))

-- The tree.

module _ (call : Calling) (tree : List Item) (names : HasNamesOnly tree) (plain : ArePlain tree) (editable : IsEditable tree) (faithful : IsFaithful call (occurrences tree) (declared ByContext Es tree)) where
  abbrev os : List Occurrence
  os = occurrences tree

  abbrev all : List Declared
  all = declared ByContext Es tree

  abbrev free : List Item
  free = recall call tree

  again : Again tree (called_idents call tree) (called_idents call tree)
  again =
      once-is-twice tree editable (called_idents call tree) (called_idents call tree)
      (not-back (λ (o : Occurrence). call o.sym o.ctxt) (λ (o : Occurrence). call o.sym o.ctxt) os (λ o at is. is))

  pub calls : idents free ≡ called_idents call tree
  calls = again.idents_are

  pub same : IsRebuilt tree free
  same = ap (with_idents tree) (sym calls)

  abbrev move : ℕ → ℕ
  move = called_place call tree

  pub injective : IsInjective move
  injective = place-injective tree (changes_to (idents tree) (idents free))

  its_zip : AllZip (Recalls call move) os (occurrences free)
  its_zip = zip call tree free names plain faithful same calls

  -- what names denote without keywords
  pub zip_declared : AllZip (IsRecalled call move os) all (declared ByContext Es free)
  zip_declared =
      subst (λ l. AllZip (IsRecalled call move os) l (declared ByContext Es free))
      (sym (all-are tree names))
      (subst (AllZip (IsRecalled call move os) (declarations ByContext os)) (sym (declared-named ByContext free (named_after call tree free names plain faithful same calls))) (declarations-recalled call move os os (occurrences free) (λ o at. at) its_zip))

  map-zip_in : (l ps : List Occurrence) → ((o : Occurrence) → IsIn l o → IsIn os o) →
      AllZip (Recalls call move) l ps →
      map (denoted_of ByContext Es (declared ByContext Es free)) ps ≡
      map (λ o. recalled_denoted call move (denoted_of ByContext Es all o)) l
  map-zip_in [] [] among all_zip = refl
  map-zip_in [] (p ∷ ps) among all_zip = absurd all_zip
  map-zip_in (o ∷ l) [] among all_zip = absurd all_zip
  map-zip_in (o ∷ l) (p ∷ ps) among all_zip =
      ap (λ d. d ∷ map (denoted_of ByContext Es (declared ByContext Es free)) ps) (denoted-recalled call move injective os all (declared ByContext Es free) zip_declared faithful o p (among o (0, refl)) all_zip.0)
      ∙ ap (λ ds. recalled_denoted call move (denoted_of ByContext Es all o) ∷ ds) (map-zip_in l ps (λ q at. among q (in-rest o l q at)) all_zip.1)

  pub denoted-free : denotations ByContext Es free ≡
      map (λ o. recalled_denoted call move (denoted_by_table tree o)) os
  denoted-free = map-zip_in os (occurrences free) (λ o at. at) its_zip

  -- keywords
  zip-contexts : IsKeywordCalling call tree → (l ps : List Occurrence) →
      ((o : Occurrence) → IsIn l o → IsIn os o) → AllZip (Recalls call move) l ps →
      AllZip (λ old new. IsTrue (has_right_context os old new)) l ps
  zip-contexts its [] [] among all_zip = tt
  zip-contexts its [] (p ∷ ps) among all_zip = absurd all_zip
  zip-contexts its (o ∷ l) [] among all_zip = absurd all_zip
  zip-contexts its (o ∷ l) (p ∷ ps) among all_zip =
      let one : Recalls call move o p = all_zip.0 in (
        subst (IsRightContext os o p.sym) (sym one.context) (subst (λ s. IsRightContext os o s (call o.sym o.ctxt).1) (sym one.symbol) (its.context o (among o (0, refl)))),
        zip-contexts its l ps (λ q at. among q (in-rest o l q at)) all_zip.1,
      )

  pub rid-of-keywords : IsResolved Es tree → IsKeywordCalling call tree → IsRidOfKeywords tree free
  rid-of-keywords resolved its = record {
    same = same;
    free = record {
      symbols =
          sym (map-twice (λ (i : Ident). i.0) ident_of (occurrences free))
          ∙ ap (map (λ (i : Ident). i.0)) calls
          ∙ map-twice (λ (i : Ident). i.0) (λ (o : Occurrence). call o.sym o.ctxt) os
          ∙ map-congr (λ (o : Occurrence). (call o.sym o.ctxt).0) (λ (o : Occurrence). keyword_free_of o.sym (denoted_of ByContext Es all o)) os its.symbol;
      contexts = zip-contexts its os (occurrences free) (λ o at. at) its_zip;
      resolved = faithful-resolved call tree free names plain faithful same calls resolved;
      alike = faithful-alike call tree free names plain faithful same calls;
    };
  }

  -- no keyword comes back
  comes-back : IsKeywordCalling call tree → (later : Numbering) (o : Occurrence) → IsIn os o →
      bytes_eq o.sym (final_symbol call tree later o) ≡ true →
      bytes_eq o.sym (call o.sym o.ctxt).0 ≡ true
  comes-back its later o at is = by_denoted (denoted_by_table tree o) refl is
    where
      node_stays : is_written_one (denoted_by_table tree o) ≡ false →
          bytes_eq o.sym (call o.sym o.ctxt).0 ≡ true
      node_stays unwritten =
          (bytes_eq-Decides o.sym (call o.sym o.ctxt).0).1 (sym (faithful.stays o at unwritten).0)

      by_keyword : (b : Bool) (digits : List ℕ) →
          cond b (codes "__" ++ o.sym) o.sym ≡ (call o.sym o.ctxt).0 →
          o.sym ≡ (call o.sym o.ctxt).0 ++ digits → bytes_eq o.sym (call o.sym o.ctxt).0 ≡ true
      by_keyword false digits kept e = (bytes_eq-Decides o.sym (call o.sym o.ctxt).0).1 kept
      by_keyword true digits kept e =
          let a = ap (λ (l : List ℕ). length l) (e ∙ ap (λ l. l ++ digits) (sym kept)) in
          let b = length-append (codes "__" ++ o.sym) digits in
          let f = length-append (codes "__") o.sym in
          absurd (omega (arith, a, b, f))

      by_number : (n : ℕ) → (call o.sym o.ctxt).0 ≡ keyword_free o.sym →
          bytes_eq o.sym (numbered (call o.sym o.ctxt).0 n) ≡ true →
          bytes_eq o.sym (call o.sym o.ctxt).0 ≡ true
      by_number zero kept e = e
      by_number (suc n) kept e =
          by_keyword (is_keyword o.sym) (decimal (suc n)) (sym kept)
          ((bytes_eq-Decides o.sym ((call o.sym o.ctxt).0 ++ decimal (suc n))).0 e)

      by_context : (scope : Scope) (name : Name) (c : Option ℕ) → name.ctxt ≡ c →
          denoted_by_table tree o ≡ Bound scope name →
          bytes_eq o.sym (symbol_after later (Bound (moved move scope) (recalled_as call name c))) ≡
          true →
          bytes_eq o.sym (call o.sym o.ctxt).0 ≡ true
      by_context scope name None none denotes e =
          node_stays (ap is_written_one denotes ∙ ap is_some none)
      by_context scope name (Some c) some denotes e =
          let symbol : name.sym ≡ o.sym = sym (ap denoted_sym denotes) ∙ own-symbol all o in
          let context : c ≡ o.ctxt = own-context all o c (ap name_in denotes ∙ some) in
          let ident : call name.sym c ≡ call o.sym o.ctxt = ap₂ call symbol context in
          by_number (later (moved move scope) (recalled_as call name (Some c))) (its.symbol o at ∙ ap (keyword_free_of o.sym) denotes) (sym (ap (λ (i : Ident). bytes_eq o.sym (numbered i.0 (later (moved move scope) (recalled_as call name (Some c))))) ident) ∙ e)
        where
          denoted_sym : Denoted → List ℕ
          denoted_sym (Bound s n) = n.sym
          denoted_sym (Global x) = x

      by_denoted : (d : Denoted) → denoted_by_table tree o ≡ d →
          bytes_eq o.sym (symbol_after later (recalled_denoted call move d)) ≡ true →
          bytes_eq o.sym (call o.sym o.ctxt).0 ≡ true
      by_denoted (Global x) denotes e = node_stays (ap is_written_one denotes)
      by_denoted (Bound scope name) denotes e = by_context scope name name.ctxt refl denotes e

  -- once is twice
  named-again : IsKeywordCalling call tree → (later : Numbering) →
      Again tree (called_idents call tree) (final_idents call tree later)
  named-again its later =
      once-is-twice tree editable (called_idents call tree) (final_idents call tree later)
      (not-back (λ (o : Occurrence). call o.sym o.ctxt) (λ (o : Occurrence). (final_symbol call tree later o, 0)) os (comes-back its later))

  pub idents-finished : IsKeywordCalling call tree → (later : Numbering) →
      idents (finished call tree later) ≡ final_idents call tree later
  idents-finished its later =
      idents-cleared (with_idents tree (final_idents call tree later))
      ∙ ap (map plainly) (named-again its later).last_are
      ∙ map-twice plainly (λ (o : Occurrence). (final_symbol call tree later o, 0)) os

  pub form-finished : IsKeywordCalling call tree → (later : Numbering) →
      without_notes (finished call tree later) ≡
      cleared (with_idents free (idents (finished call tree later)))
  form-finished its later =
      notes-cleared (with_idents tree (final_idents call tree later))
      ∙ ap cleared (sym (named-again its later).once)
      ∙ ap (λ l. cleared (with_idents free l)) (sym (idents-finished its later))

  pub clean-finished : (later : Numbering) →
      finished call tree later ≡ cleared (finished call tree later)
  clean-finished later = sym (cleared-twice (with_idents tree (final_idents call tree later)))

  -- the naming rule, over the merged tree
  abbrev pub IsFinalNumbering : Numbering → Type 0
  IsFinalNumbering later =
      (d : Declared) → IsIn all d → named_right_by (λ t n. later (moved move t) (recalled call n)) call all os d ≡ true

  pub numbers-right : (later : Numbering) → IsFinalNumbering later → IsNumbering free later
  numbers-right later right =
      called-numbers call tree free names plain faithful same calls later right

  -- what is made in one go is the tree without keywords, named
  pub is-finished : IsResolved Es tree → IsKeywordCalling call tree → (later : Numbering) →
      IsFinalNumbering later → IsNamed free (finished call tree later)
  is-finished resolved its later right =
      is-named free (finished call tree later)
      (faithful-resolved call tree free names plain faithful same calls resolved)
      (faithful-names call tree free names plain faithful same calls)
      (faithful-plain call tree free names plain faithful same calls)
      (record { numbers = later; right = numbers-right later right; symbols = symbols })
      (form-finished its later)
    where
      symbols : map (λ (o : Occurrence). o.sym) (occurrences (finished call tree later)) ≡ map
          (λ o. symbol_after later (denoted_of ByContext Es (declared ByContext Es free) o))
          (occurrences free)
      symbols =
          sym (map-twice (λ (i : Ident). i.0) ident_of (occurrences (finished call tree later)))
          ∙ ap (map (λ (i : Ident). i.0)) (idents-finished its later)
          ∙ map-twice (λ (i : Ident). i.0) (λ (o : Occurrence). (final_symbol call tree later o, 0)) os
          ∙ sym (map-twice (symbol_after later) (λ o. recalled_denoted call move (denoted_by_table tree o)) os)
          ∙ ap (map (symbol_after later)) (sym denoted-free)
          ∙ map-twice (symbol_after later) (denoted_of ByContext Es (declared ByContext Es free)) (occurrences free)

  -- and declares no name twice
  pub undoubled-finished : IsResolved Es tree → IsKeywordCalling call tree → HasPlainKeys tree →
      IsUndoubled tree → (later : Numbering) → IsFinalNumbering later →
      first_doubled Es (finished call tree later) ≡ None
  undoubled-finished resolved its keys undoubled later right =
      let named = is-finished resolved its later right in
      none-doubled free (finished call tree later)
      (faithful-resolved call tree free names plain faithful same calls resolved)
      (faithful-names call tree free names plain faithful same calls)
      (faithful-plain call tree free names plain faithful same calls)
      (faithful-keys call tree free names plain faithful same calls keys)
      (faithful-undoubled call tree free names plain faithful same calls undoubled)
      named.renamed
      (form-finished its later)

-- ---- tidied

-- Marks.

head-stays : (notes : List Note) (head : Head) (inside : List Item) → AreAlone notes →
    node_stays None (in_marked.next_note notes) (cleared_head head) (tidied inside) ≡
    node_stays None (in_marked.next_note notes) head inside
head-stays notes (h.ImportDecl meta) inside its = refl
head-stays notes (h.NamedExport meta) inside its = refl
head-stays notes (h.ExportAll meta) inside its = refl
head-stays notes (h.VarDecl kind meta) inside its = refl
head-stays notes head inside its = alone_stays notes head (tidied inside) inside its

head-alike : (head : Head) (inside : List Item) (field : ℕ) (x : Text) (meant : Meant) →
    marks_there (around_in head inside) field x meant ≡
    marks_there (around_in (cleared_head head) (tidied inside)) field x meant
head-alike (h.ImportDecl meta) inside field x meant = refl
head-alike (h.NamedExport meta) inside field x meant = refl
head-alike (h.ExportAll meta) inside field x meant = refl
head-alike (h.VarDecl kind meta) inside field x meant = refl
head-alike head inside field x meant = alike_inside head inside (tidied inside) field x meant

-- a node
node-marked : {around : Around} {notes rest : List Note} (field : ℕ) (head : Head)
    (inside : List Item) (marks : List Mark) →
    Marked None around notes (node field (cleared_head head) (tidied inside))
    (node_marks field (cleared_head head) marks) rest →
    Marked None around notes (tidied (node field head inside)) (node_marks field head marks) rest
node-marked {around = around} {notes = notes} {rest = rest} field head inside marks one =
    subst (λ list. Marked None around notes list (node_marks field head marks) rest) (sym (tidied-node field head inside))
    (subst (λ its. Marked None around notes (node field (cleared_head head) (tidied inside)) (m.Begins field its ∷ (marks ++ m.Ends ∷ [])) rest) (twice head) one)

default-tidied : (field : ℕ) (x : Text) (meant : Meant) (default : List Item) (marks : List Mark) →
    shorthand_marks field x meant (tidied default) marks ≡
    shorthand_marks field x meant default marks
default-tidied field x meant [] marks = refl
default-tidied field x meant (first ∷ more) marks = refl

word-marked : {around : Around} {notes : List Note} (field : ℕ) (x : Text) (ctxt : ℕ) (role : Role)
    →
    is_occurrence role ≡ false →
    Marked None around notes (tidied (h.Ident field x ctxt role ∷ [])) (m.Word field x ∷ []) notes
word-marked field x ctxt TheVariants.Word plain = in_marked.Word field x 0 TheVariants.Word plain
word-marked field x ctxt TheVariants.Binding plain = absurd cc
word-marked field x ctxt TheVariants.Reference plain = absurd cc

binding-tidied : (x : Text) (ctxt : ℕ) (role : Role) (default : List Item) →
    is_occurrence role ≡ true →
    tidied (binding None 0 x ctxt role ++ default) ≡ binding None 0 x ctxt role ++ tidied default
binding-tidied x ctxt TheVariants.Word default occurs = cc
binding-tidied x ctxt TheVariants.Binding default occurs = refl
binding-tidied x ctxt TheVariants.Reference default occurs = refl

-- where names stand for themselves alone
marked-tidied : {around : Around} {notes rest : List Note} {items : List Item} {marks : List Mark} →
    Marked None around notes items marks rest → AreAlone notes →
    Marked None around notes (tidied items) marks rest
marked-tidied in_marked.Nothing its = in_marked.Nothing
marked-tidied {around = around} {notes = notes} {rest = rest} (in_marked.Joined {first = first} {second = second} {marks = marks} {more = more} one two) its =
    subst (λ list. Marked None around notes list (marks ++ more) rest) (sym (tidied-append first second))
    (in_marked.Joined (marked-tidied one its) (marked-tidied two (alone_left one its)))
marked-tidied (in_marked.Hole field) its = in_marked.Hole field
marked-tidied (in_marked.Word field x ctxt role plain) its = word-marked field x ctxt role plain
marked-tidied (in_marked.Name around {note = note} {rest = rest} field x ctxt role occurs) its =
    subst (λ y. Marked None around (note ∷ rest) (y ∷ []) (marks_there around field x note.meant) rest) (sym (tidied-name field x ctxt role occurs))
    (in_marked.Name around field x ctxt role occurs)
marked-tidied {notes = notes} (in_marked.Inside field head {inside = inside} {marks = marks} it_stays one) its =
    node-marked field head inside marks
    (in_marked.Inside field (cleared_head head) (head-stays notes head inside its ∙ it_stays) (alike (head-alike head inside) (marked-tidied one its)))
marked-tidied {around = around} {notes = notes} {rest = rest} (in_marked.Kept field head first {inside = inside} {more = more} {marks = marks} {more_marks = more_marks} keeps one two) its =
    node-marked field head (node first h.MemberExpr inside ++ more) (node_marks first h.MemberExpr marks ++ more_marks)
    (subst (λ list. Marked None around notes (node field (cleared_head head) list) (node_marks field (cleared_head head) (node_marks first h.MemberExpr marks ++ more_marks)) rest)
    (sym (tidied-append (node first h.MemberExpr inside) more ∙ ap (λ list. list ++ tidied more) (tidied-node first h.MemberExpr inside)))
    (in_marked.Kept field (cleared_head head) first (first-kept head first keeps) (marked-tidied one its) (marked-tidied two (alone_left one its))))
marked-tidied {around = around} (in_marked.Shorthand {note = note} {notes = notes} {rest = rest} field x ctxt role {default = default} {marks = marks} occurs one) its =
    subst (λ list. Marked None around (note ∷ notes) list (shorthand_marks field x note.meant default marks) rest)
    (sym (tidied-node field h.AssignPatProp (binding None 0 x ctxt role ++ default) ∙ ap (node field h.AssignPatProp) (binding-tidied x ctxt role default occurs)))
    (subst (λ list. Marked None around (note ∷ notes) (node field h.AssignPatProp (binding None 0 x ctxt role ++ tidied default)) list rest) (default-tidied field x note.meant default marks)
    (in_marked.Shorthand field x ctxt role occurs (marked-tidied one its.1)))
marked-tidied (in_marked.OfReads field count inside reads) its = cc
marked-tidied (in_marked.OfCall field inside calls) its = cc
marked-tidied (in_marked.OfMeta field meant is) its = cc

all-marked : (items : List (List Item)) (tolds : List ItemMeaning) → AllZip HasMarks items tolds →
    AllZip HasMarks (map tidied items) tolds
all-marked [] [] marked = tt
all-marked [] (told ∷ tolds) marked = absurd marked
all-marked (item ∷ items) [] marked = absurd marked
all-marked (item ∷ items) (told ∷ tolds) marked =
    (marked-tidied marked.0 (alone_alone told.0), all-marked items tolds marked.1)

-- Items.

tidied-flat : (items : List (List Item)) → tidied (flat items) ≡ flat (map tidied items)
tidied-flat [] = refl
tidied-flat (item ∷ items) =
    tidied-append item (flat items) ∙ ap (λ l. tidied item ++ l) (tidied-flat items)

joined-tidied : (items : List (List Item)) → tidied (joined_items items) ≡ joined_items (map tidied items)
joined-tidied items =
    ap (λ l. h.Open 0 h.Module ∷ l)
    (tidied-append (flat items) (h.Close ∷ []) ∙ ap (λ l. l ++ h.Close ∷ []) (tidied-flat items))

-- an item of which the same is told
record MadeTidy (item : List Item) (one : NotedItem) : Type 0 where
  other : NotedItem
  remade : Remade one (tidied item) other

item-tidied : {item : List Item} {one : NotedItem} → IsOfForm item one → MadeTidy item one
item-tidied (whole_form {told = told} marked) = record { other = AsWhole told; remade = remade_whole (marked-tidied marked (alone_alone told.0)) }
item-tidied (function_form {c = c} {insides = insides} {tolds = tolds} meta load helper own exports marked) = record {
  other = AsFunction (load_function_front no_notes load helper own exports) _ (map tidied insides) tolds;
  remade = remade_function
      (ap tidied (function-parts meta load helper own exports (flat insides))
      ∙ tidied-append (load_function_front meta load helper own exports) (flat insides ++ function_ends)
      ∙ ap (λ l. load_function_front no_notes load helper own exports ++ l) (tidied-append (flat insides) function_ends ∙ ap (λ l. l ++ function_ends) (tidied-flat insides)))
      (front-blank no_notes load helper own exports)
      (all-marked insides tolds marked);
}

record AllTidy (items : List (List Item)) (noted : List NotedItem) : Type 0 where
  others : List NotedItem
  remade : AllRemade noted (map tidied items) others

items-tidied : (items : List (List Item)) (noted : List NotedItem) → AllOfForm items noted →
    AllTidy items noted
items-tidied [] [] forms = record { others = []; remade = tt }
items-tidied [] (one ∷ noted) forms = absurd forms
items-tidied (item ∷ items) [] forms = absurd forms
items-tidied (item ∷ items) (one ∷ noted) forms =
    let first = item-tidied forms.0 in
    let rest = items-tidied items noted forms.1 in
    record { others = first.other ∷ rest.others; remade = (first.remade, rest.remade) }

-- What names denote.

-- two occurrences at one place, in the same nodes but for notes
record AreOne (o p : Occurrence) : Type 0 where
  place : p.place ≡ o.place
  path : cleared_path p.path ≡ cleared_path o.path

pair-up : (os ps : List Occurrence) → map cleared_occurrence ps ≡ map cleared_occurrence os →
    AllZip AreOne os ps
pair-up [] [] e = tt
pair-up [] (p ∷ ps) e = absurd cc
pair-up (o ∷ os) [] e = absurd cc
pair-up (o ∷ os) (p ∷ ps) e =
    let first : cleared_occurrence p ≡ cleared_occurrence o = cc in
    let rest : map cleared_occurrence ps ≡ map cleared_occurrence os = cc in
    (record { place = ap (λ (q : Occurrence). q.place) first; path = ap (λ (q : Occurrence). q.path) first }, pair-up os ps rest)

pairs : (tree : List Item) → AllZip AreOne (occurrences tree) (occurrences (tidied tree))
pairs tree =
    pair-up (occurrences tree) (occurrences (tidied tree))
    (sym (occurrences-cleared (tidied tree)) ∙ ap occurrences (cleared-same tree) ∙ occurrences-cleared tree)

stays-placed : (scope : Scope) → placed_scope (λ n. n) scope ≡ scope
stays-placed Wrapper = refl
stays-placed Top = refl
stays-placed (Inner kind begins) = refl

all-placed : (scopes : List Scope) → map (placed_scope (λ n. n)) scopes ≡ scopes
all-placed [] = refl
all-placed (scope ∷ scopes) = λ i. stays-placed scope i ∷ all-placed scopes i

stand : (os ps : List Occurrence) → AllZip AreOne os ps → AllZip (StandsInMoved (λ n. n)) os ps
stand [] [] zip = tt
stand [] (p ∷ ps) zip = absurd zip
stand (o ∷ os) [] zip = absurd zip
stand (o ∷ os) (p ∷ ps) zip =
    (sym (scopes_around-cleared Es p.path) ∙ ap (scopes_around Es) zip.0.path ∙ scopes_around-cleared Es o.path ∙ sym (all-placed (scopes_around Es o.path)), stand os ps zip.1)

denoted-there : (tree : List Item) (i : ℕ) (o : Occurrence) →
    slice_get (occurrences tree) i ≡ Some o →
    denoted_at ByContext Es tree o.place ≡ Some (denoted_in_tree tree o)
denoted-there tree i o at = ap (option_map (denoted_in_tree tree)) (occurrences-at tree i o at)

denoted-pair : (tree : List Item) (i : ℕ) (o p : Occurrence) →
    slice_get (occurrences tree) i ≡ Some o → slice_get (occurrences (tidied tree)) i ≡ Some p →
    AreOne o p → denoted_in_tree (tidied tree) p ≡ denoted_in_tree tree o
denoted-pair tree i o p at there one =
    same_Some _ _ (sym (denoted-there (tidied tree) i p there) ∙ ap (denoted_at ByContext Es (tidied tree)) one.place ∙ denoted-tidied tree o.place ∙ denoted-there tree i o at)

maps-same : {A B C : Type 0} (R : A → B → Type 0) (f : A → C) (g : B → C) (xs : List A)
    (ys : List B) →
    AllZip R xs ys →
    ((i : ℕ) (x : A) (y : B) → slice_get xs i ≡ Some x → slice_get ys i ≡ Some y → R x y → g y ≡ f x)
    →
    map g ys ≡ map (λ d. d) (map f xs)
maps-same R f g [] [] zip each = refl
maps-same R f g [] (y ∷ ys) zip each = absurd zip
maps-same R f g (x ∷ xs) [] zip each = absurd zip
maps-same R f g (x ∷ xs) (y ∷ ys) zip each =
    λ i. each zero x y refl refl zip.0 i ∷ maps-same R f g xs ys zip.1 (λ k a b at there. each (suc k) a b at there) i

becoming-tidied : (tree : List Item) → Becoming ByContext tree ByContext (tidied tree)
becoming-tidied tree = record {
  becomes = λ d. d;
  move = λ n. n;
  stands = stand (occurrences tree) (occurrences (tidied tree)) (pairs tree);
  are = maps-same AreOne (denoted_in_tree tree) (denoted_in_tree (tidied tree)) (occurrences tree) (occurrences (tidied tree)) (pairs tree) (denoted-pair tree);
  bindings = λ scope name. (name, ap (λ s. Bound s name) (sym (stays-placed scope)));
  globals = λ x. refl;
  one = λ d e a b is. is;
  same = λ d e a b. refl;
}

-- The bundle.

-- a whole bundle is one when it is tidied
pub tidied-bundle : (p : Program) (hooks : Hooks) (plan : List Cause) (tree : List Item) →
    IsWholeBundle p hooks plan tree → AreListed Other tree →
    IsBundle p hooks AsModule ByContext (tidied tree)
tidied-bundle p hooks plan tree its listed =
    subst (λ t. IsBundle p hooks AsModule ByContext (tidied t)) (sym still.is)
    (is-bundle p hooks plan ByContext (tidied whole) after
    (layout-stays p AsModule ByContext ByContext whole (tidied whole) plan still.labels after.labels still.items after.items refl after.is
    (body-length p hooks plan ByContext tree still ∙ sym (body-length p hooks plan ByContext (tidied whole) after))
    (λ tops others at owners order good. (tidied-good_order whole tops others at owners order).0 good)
    (subst (λ t. IsLaidOut p AsModule ByContext t (pairing_of still.labels still.items plan)) still.is its.laid)))
  where
    still : IsStillNoted p hooks plan ByContext tree
    still = its.ready.still

    whole : List Item
    whole = joined_items still.items

    tidy : AllTidy still.items still.noted
    tidy = items-tidied still.items still.noted its.ready.forms

    again : ModuleRemade still.noted (tidied whole)
    again = record { items = map tidied still.items; others = tidy.others; is = joined-tidied still.items; remade = tidy.remade }

    listing : IsListing (tidied whole)
    listing = is_listing (listed-tidied (subst (AreListed Other) still.is listed))

    after : IsStillNoted p hooks plan ByContext (tidied whole)
    after =
        still-noted p hooks plan ByContext ByContext still.items still.noted still.labels
        (tidied whole) still.bundle its.ready.forms its.ready.count still.one still.occur
        still.agrees (becoming-tidied whole) again listing
