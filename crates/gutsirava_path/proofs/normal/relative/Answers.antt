-- The way leads from the folder to the file.
use Rattle.std.proofs.Common.{◌≡◌, ◌≤◌, [], Bor, List, ℕ, map, take, fold, length, string_bytes, vec_len, ap, ◌∙◌, sym, arith}
use Rattle.std.proofs.lemmas.List.{length-map}
use Rattle.std.specs.List.{join_with_byte}
use Rattle.gutsirava_path.specs.Normal.{normal_parts, parts_of, step, way_parts}
use Rattle.gutsirava_path.proofs.Ways.{normal_text-way}
use Rattle.gutsirava_path.proofs.normal.relative.Goals as goal

pub returns : goal.returns
returns c = λ root path_root.
    let now : Bor (List ℕ) → List ℕ = λ p. p.now in
    let folder = c.args.folder.now in
    let path = c.args.path.now in
    let shared = c.shared_parts-shared.result in
    let from : map now c.in_ok-from.from.items ≡ normal_parts folder =
    c.in_ok-from.ensures ∙ ap (λ r. fold (step r) [] (parts_of folder)) c.is_rooted.ensures in
    let to : map now c.in_ok-to.to.items ≡ normal_parts path =
    c.in_ok-to.ensures ∙ ap (λ r. fold (step r) [] (parts_of path)) c.is_rooted-2.ensures in
    let from_slice : map now c.as_slice.result.now ≡ normal_parts folder = ap (map now) c.as_slice.ensures.value ∙ from in
    let to_slice : map now c.as_slice-2.result.now ≡ normal_parts path = ap (map now) c.as_slice-2.ensures.value ∙ to in
    let same : take shared (normal_parts folder) ≡ take shared (normal_parts path) =
    sym (ap (take shared) from_slice) ∙ c.shared_parts-shared.ensures.same ∙ ap (take shared) to_slice in
    let long : length (normal_parts folder) ≡ length c.in_ok-from.from.items =
    sym (ap length from) ∙ length-map c.in_ok-from.from.items now in
    let count : vec_len c.in_ok-from.from ≡ length (normal_parts folder) = omega (arith, c.in_ok-from.from.ok.0, long) in
    let within : shared ≤ length (normal_parts folder) =
    omega (arith, c.shared_parts-shared.ensures.in_a, sym (ap length from_slice) ∙ length-map c.as_slice.result.now now) in
    let is_way : string_bytes c.in_ok-text.text ≡ join_with_byte 47 (way_parts (length (normal_parts folder)) shared (normal_parts path)) =
    c.in_ok-text.ensures
    ∙ ap (λ parts. join_with_byte 47 (map now parts)) c.as_slice-4.ensures.value
    ∙ ap (join_with_byte 47) c.in_ok-way.ensures
    ∙ ap (λ n. join_with_byte 47 (way_parts n shared (map now c.as_slice-3.result.now))) (c.len.ensures ∙ count)
    ∙ ap (λ parts. join_with_byte 47 (way_parts (length (normal_parts folder)) shared parts))
    (ap (map now) c.as_slice-3.ensures.value ∙ to) in
    normal_text-way folder path (string_bytes c.in_ok-text.text) shared root path_root within same is_way
