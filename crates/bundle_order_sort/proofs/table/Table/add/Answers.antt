use Rattle.std.proofs.Common.{◌≡◌, ◌∷◌, ◌++◌, [], ℕ, nat_eq, None, position, List, length, map, set, refl, sym, ap, ◌∙◌, arith}
use Rattle.std.proofs.lemmas.List.{length-map, length-set, map-set, map_push}
use Rattle.bundle_order_graph.proofs.NodeLemmas.{seen-read}
use Rattle.bundle_order_sort.proofs.TableLemmas.{names-long, rows-new, rows-put}
use Rattle.bundle_order_sort.proofs.table.Table.add.Goals as goal

pub returns-in_ok-push-in-Some : goal.returns-in_ok-push-in-Some
returns-in_ok-push-in-Some c = λ owners are last.
    let items = c.args.self.now.rows.items in
    let lists = map (λ v. v.items) items in
    let keys = c.args.self.now.modules.keys in
    let at = c.in-Some.at in
    let row = c.push.new.self in
    let len : length lists ≡ length keys = length-map items (λ v. v.items) ∙ are.len in
    let read = seen-read (λ v. v.items) items items at c.index_mut-row.result.now refl (omega (arith, c.if-at-len.true, c.len.ensures)) c.index_mut-row.ensures.value in
    record {
      len = length-set items at row ∙ are.len;
      rows = rows-put keys lists (map (λ v. v.items) (set items at row)) owners c.args.id at len are.rows (sym c.get_index_of.ensures.index ∙ c.in-Some.is) c.args.place last
          (map-set (λ v. v.items) items at row
          ∙ (ap (λ (l : List ℕ). set lists at l) c.in_ok-push-in-Some.ensures.items
          ∙ ap (λ (l : List ℕ). set lists at (l ++ c.args.place ∷ [])) read));
    }

pub returns-in_ok-insert-in-None : goal.returns-in_ok-insert-in-None
returns-in_ok-insert-in-None c = λ owners are last.
    let items = c.args.self.now.rows.items in
    let lists = map (λ v. v.items) items in
    let keys = c.args.self.now.modules.keys in
    let names = c.insert.new.self.keys in
    let now = c.push-in-None-2.new.self.items in
    let news = map (λ v. v.items) now in
    let absent : position (nat_eq c.args.id) keys ≡ None = sym c.get_index_of.ensures.index ∙ c.in-None.is in
    let len : length lists ≡ length keys = length-map items (λ v. v.items) ∙ are.len in
    let row : c.push-in-None.new.self.items ≡ c.args.place ∷ [] = c.in_ok-push-in-None.ensures.items ∙ ap (λ (l : List ℕ). l ++ c.args.place ∷ []) c.new-row.ensures.items in
    let put : news ≡ lists ++ (c.args.place ∷ []) ∷ [] =
    ap (map (λ v. v.items)) c.in_ok-push-in-None-2.ensures.items
    ∙ (map_push (λ v. v.items) items c.push-in-None.new.self
    ∙ ap (λ (l : List ℕ). lists ++ l ∷ []) row) in
    record {
      len = sym (length-map now (λ v. v.items)) ∙ names-long keys lists news owners c.args.id 0 len are.rows names absent c.in_ok-insert-in-None.ensures.keys c.args.place put;
      rows = rows-new keys lists news owners c.args.id 0 len are.rows absent c.args.place last names c.in_ok-insert-in-None.ensures.keys put;
    }
