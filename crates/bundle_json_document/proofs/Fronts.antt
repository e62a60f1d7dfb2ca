-- Fronts of texts that were written.
-- What is kept of the members that were read, with one member more.
-- What follows from what holds of an `Ok`, and of a refusal.
use Rattle.std.proofs.Common.{◌≡◌, ℕ, ◌-◌, List, ◌++◌, Option, length, take, drop, ap, sym, ◌∙◌, append_assoc, take-append-drop, Some, None, IsSomeAnd, Result, Ok, Err, IfErr, IfOk, IsErrAnd}
use Rattle.std.proofs.lemmas.List.{take_rest}
use Rattle.std.proofs.KnownBytes.{Appends-trans, Appends-kept}
use Rattle.std.specs.Io.KnownBytes.{Appends, Keeps}
use Rattle.serde_json.specs.Data.{Data, Members, put}
use Rattle.serde_json.specs.Find.{get_member}
use Rattle.serde_json.proofs.Views.{get_member-put_other}
use Rattle.bundle_json_document.specs.Writing.{AppendsFront}
use Rattle.bundle_json_document.specs.Stream.{IsMemberKept}
use Rattle.bundle_json_document.specs.Error.{RefusesFor}
use Rattle.bundle_json_document.specs.declared.error.DocumentError.{DocumentError}

-- ---- fronts

-- a front of a text is one of a longer text
pub front_of_longer : {old new : Option (List ℕ)} {text : List ℕ} (more : List ℕ) → AppendsFront old new text → AppendsFront old new (text ++ more)
front_of_longer more h = record {
  front = h.front;
  rest = h.rest ++ more;
  split = ap (λ it. it ++ more) h.split ∙ append_assoc h.front h.rest more;
  written = h.written;
}

-- a whole text, and then a front of what follows
pub front_after : (old mid new : Option (List ℕ)) (text : List ℕ) {more : List ℕ} → Appends old mid text → AppendsFront mid new more → AppendsFront old new (text ++ more)
front_after old mid new text whole h = record {
  front = text ++ h.front;
  rest = h.rest;
  split = ap (λ it. text ++ it) h.split ∙ sym (append_assoc text h.front h.rest);
  written = Appends-trans old mid new text h.front whole h.written;
}

-- a writer that keeps what it holds
pub front_kept : {old mid : Option (List ℕ)} (new : Option (List ℕ)) {text : List ℕ} → AppendsFront old mid text → Keeps mid new → AppendsFront old new text
front_kept {old} {mid} new h kept = record {
  front = h.front;
  rest = h.rest;
  split = h.split;
  written = Appends-kept old mid new h.front h.written kept;
}

-- the first bytes of the rest come to the front
pub front_moves : (text front rest : List ℕ) (n : ℕ) → text ≡ front ++ rest → text ≡ (front ++ take n rest) ++ take (length rest - n) (drop n rest)
front_moves text front rest n e =
    e ∙ ap (λ it. front ++ it) (sym (take-append-drop n rest)) ∙ sym (append_assoc front (take n rest) (drop n rest)) ∙ ap (λ it. (front ++ take n rest) ++ it) (sym (take_rest rest n))

-- ---- kept
module _ {X : Type 0} (R : Data → X → Type 0) where
  -- a member under another key
  pub kept_still : (q key : List ℕ) (d : Data) (ms : Members) (kept : Option X) → (q ≡ key → ⊥) → IsMemberKept R (get_member q ms) kept → IsMemberKept R (get_member q (put key d ms)) kept
  kept_still q key d ms kept other old = rw (get_member-put_other q key d ms other) old

  -- what is kept is that of a member
  pub is_there : (o : Option Data) (x : X) → IsMemberKept R o (Some x) → IsSomeAnd o (λ d. R d x)
  is_there None x kept = absurd kept
  is_there (Some d) x kept = kept

-- ---- results

-- a weaker fact
pub if_ok_weaker : {T E : Type 0} (P Q : T → Type 0) (r : Result T E) → ((x : T) → P x → Q x) → IfOk r P → IfOk r Q
if_ok_weaker P Q (Ok x) weaker holds = weaker x holds
if_ok_weaker P Q (Err e) weaker holds = holds

-- one reason for another
pub refused_too : {T P Q : Type 0} (r : Result T DocumentError) → (P → Q) → IfErr r (RefusesFor P) → IfErr r (RefusesFor Q)
refused_too (Ok x) f holds = tt
refused_too (Err refusal) f holds = λ is. f (holds is)

-- a refusal that is handed on
pub handed_on : {T P Q : Type 0} (r : Result T DocumentError) (e : DocumentError) → IsErrAnd r (λ x. x ≡ e) → (P → Q)
    → RefusesFor P e → IfErr r (RefusesFor Q)
handed_on (Ok x) e is f why = tt
handed_on (Err x) e is f why = λ is_form. f (why (sym is ∙ is_form))
