-- A text that goes last is the first of its hash, or found by its order.
use Rattle.std.proofs.Common.{◌≡◌, ◌∙◌, ◌++◌, ◌∷◌, [], None, Some, ap, cond, is_some, nat_cmp, position, string_bytes, string_cmp, subst, sym}
use Rattle.std.specs.BTreeMap.{get, is_at}
use Rattle.std.proofs.lemmas.Slice.Eq.{bytes_eq-Decides}
use Rattle.bundler_call.specs.Hashed.{hash_of, same_text, AreTexts}
use Rattle.bundler_call.proofs.Holding.{hashed-first, hashed-other, none_is, same_hash, text_matches, text_laws}
use Rattle.bundler_call.proofs.texts.Texts.add.Goals as goal

pub invariant_of-self-then-contains_key : goal.invariant_of-self-then-contains_key
invariant_of-self-then-contains_key c =
    let texts = c.self.inside.texts.items in
    let text = c.args.text.now in
    let own = c.in_ok-own.own in
    let copy = c.in_ok-copy.copy in
    let none : position (same_text text) texts ≡ None = ap (position (same_text text)) c.self.view_is ∙ c.requires in
    subst (λ l. AreTexts l c.self.inside.firsts c.insert.new.self) (sym (c.in_ok-push.ensures.items ∙ ap (λ l. l ++ own ∷ []) c.reserve.ensures.items))
    (hashed-other string_cmp same_text (λ t. hash_of (string_bytes t)) text_laws text_matches same_hash texts text own c.self.inside.firsts c.self.inside.others c.self.invariant
    ((bytes_eq-Decides _ _).1 (sym c.in_ok-own.ensures.cases)) none copy c.insert.new.self ((bytes_eq-Decides _ _).1 (sym c.in_ok-copy.ensures.cases))
    (λ q. c.in_ok-insert.ensures.updates.0 q ∙ ap (λ n. cond (is_at (string_cmp copy) q) (Some n) (get string_cmp c.self.inside.others q)) (c.len-place.ensures ∙ c.self.inside.texts.ok.0)))

pub invariant_of-self-else-contains_key : goal.invariant_of-self-else-contains_key
invariant_of-self-else-contains_key c =
    let texts = c.self.inside.texts.items in
    let firsts = c.self.inside.firsts in
    let text = c.args.text.now in
    let own = c.in_ok-own.own in
    let none : position (same_text text) texts ≡ None = ap (position (same_text text)) c.self.view_is ∙ c.requires in
    let new : get nat_cmp firsts (hash_of (string_bytes text)) ≡ None
    = none_is _ (ap (λ h. is_some (get nat_cmp firsts h)) (sym c.hash_of-hash.ensures) ∙ sym c.contains_key.ensures ∙ c.if-contains_key.false) in
    subst (λ l. AreTexts l c.insert-else-contains_key.new.self c.self.inside.others) (sym (c.in_ok-push-2.ensures.items ∙ ap (λ l. l ++ own ∷ []) c.reserve.ensures.items))
    (hashed-first string_cmp same_text (λ t. hash_of (string_bytes t)) text_laws text_matches same_hash texts text own firsts c.self.inside.others c.self.invariant
    ((bytes_eq-Decides _ _).1 (sym c.in_ok-own.ensures.cases)) none c.insert-else-contains_key.new.self new
    (λ h. c.in_ok-insert-2.ensures.updates.0 h ∙ (λ j. cond (is_at (nat_cmp (c.hash_of-hash.ensures j)) h) (Some ((c.len-place.ensures ∙ c.self.inside.texts.ok.0) j)) (get nat_cmp firsts h))))

pub returns-in_ok-push-clause-added : goal.returns-in_ok-push-clause-added
returns-in_ok-push-clause-added c =
    let own = c.in_ok-own.own in
    (own, c.in_ok-own.ensures.cases, c.in_ok-push.ensures.items ∙ ap (λ l. l ++ own ∷ []) (c.reserve.ensures.items ∙ c.self.view_is))

pub returns-in_ok-push-2-clause-added : goal.returns-in_ok-push-2-clause-added
returns-in_ok-push-2-clause-added c =
    let own = c.in_ok-own.own in
    (own, c.in_ok-own.ensures.cases, c.in_ok-push-2.ensures.items ∙ ap (λ l. l ++ own ∷ []) (c.reserve.ensures.items ∙ c.self.view_is))
