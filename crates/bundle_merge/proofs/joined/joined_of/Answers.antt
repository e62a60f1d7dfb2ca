-- What is merged is merged of copies of the prepared items, and no fault of theirs is told.
use Rattle.std.proofs.Common.{◌≡◌, ℕ, List, arith, length, map, inl, inr, sym, subst}
use Rattle.std.specs.Prelude.{Err, IfOk, Ok, Result}
use Rattle.std.proofs.lemmas.Result.{IfOk-weaker, IfErr-weaker, err_from_is_err_and}
use Rattle.bundle_tree_ast.specs.declared.module.Module.{Module}
use Rattle.bundle_tree_names.specs.FileName.{Name as FileName}
use Rattle.bundle_rules.specs.Faults.{NeedsTooManyContexts}
use Rattle.bundle_rules.specs.Merged.{Contexts, IsMerged, IsPrepared}
use Rattle.bundle_rules.specs.Parts.{Parts, in_order}
use Rattle.bundle_rules.specs.Program.{Program}
use Rattle.bundle_link.specs.declared.link.Linker.{Linker}
use Rattle.bundle_scope.specs.Refusals.{IsUsedUp}
use Rattle.bundle_merge_theory.specs.joined.Joined.{joined_items}
use Rattle.bundle_merge_theory.specs.cleared.Programs.{cleared_program}
use Rattle.bundle_merge_theory.proofs.cleared.Cleared.{merged-of-cleared, needs-of-cleared}
use Rattle.bundle_merge_items.specs.Added.{module_item_lists}
use Rattle.bundle_merge.specs.Handed.{AreReadFrom, AreReadIn}
use Rattle.bundle_merge.specs.Prepared.{items_of_each}
use Rattle.bundle_merge.specs.Read.{AreAllKnown}
use Rattle.bundle_merge.specs.Ready.{Answering, IsMergeable, hooks_by}
use Rattle.bundle_merge.specs.Refusals.{MayLackNames}
use Rattle.bundle_merge.specs.Standing.{HasContextsBelow}
use Rattle.bundle_merge.specs.declared.read.ReadModule.{ReadModule}
use Rattle.bundle_merge.proofs.Joining.{long-copies, memory-alone, read-in}
use Rattle.bundle_merge.proofs.Known.{all-there}
use Rattle.bundle_merge.proofs.Objects.{answers-fit}
use Rattle.bundle_merge.proofs.Ready.{all-known}
use Rattle.bundle_merge.proofs.joined.joined_of.Goals as goal

pub returns-in_err-reads-clause-lacks : goal.returns-in_err-reads-clause-lacks
returns-in_err-reads-clause-lacks c =
    let q = err_from_is_err_and c.from_residual.result c.from_residual.ensures.1 in
    rw (q.1, q.2) (λ p given its prepared w ready keys copied.
    (let linker = c.args.linker.now in
    let copies = c.args.copies.now in
    let next = c.args.contexts.now.next in
    let hooks = hooks_by given in
    let fits = answers-fit given in
    inl (memory-alone p hooks its next prepared linker w ready fits copies copied _
    (c.in_err-reads.ensures.told (all-known p hooks its next prepared linker w ready fits)
    (long-copies p hooks its next prepared linker w ready fits copies copied)))))

pub returns-in_err-reads-clause-told : goal.returns-in_err-reads-clause-told
returns-in_err-reads-clause-told c =
    let q = err_from_is_err_and c.from_residual.result c.from_residual.ensures.1 in
    rw (q.1, q.2) (λ p its w long.
    elim (c.in_err-reads.ensures.told (all-there p its c.args.linker.now w) long) [
      | inl memory ↦ inl (inl memory)
      | inr told ↦ inr told
    ])

pub returns-in-Ok-clause-told : goal.returns-in-Ok-clause-told
returns-in-Ok-clause-told c =
    IfErr-weaker c.with_next.result _ _ (λ refusal lack p its w long. inl lack) c.with_next.ensures.refused

-- what was read is read of the program
abbrev IsReadSo : (linker : Linker) (copies : List Module) (next : ℕ) (reads : List ReadModule) → Type 0
IsReadSo linker copies next reads =
    (p : Program) (given : Answering) (its : ℕ → Contexts) (prepared : Parts) →
    IsMergeable p its linker → IsPrepared p (hooks_by given) its next prepared →
    map module_item_lists copies ≡ items_of_each (in_order prepared) linker.linked.list.items →
    AreReadIn (cleared_program p) (hooks_by given) linker (λ m. (its m).local) next reads

read-so : (linker : Linker) (ids : List ℕ) (copies : List Module) (next : ℕ) (reads : List ReadModule) →
    ids ≡ linker.linked.list.items →
    (AreAllKnown linker linker.linked.list.items →
    length copies ≡ length linker.linked.list.items →
    AreReadFrom linker ids linker.linked.list.items copies (length copies) reads) →
    IsReadSo linker copies next reads
read-so linker ids copies next reads keys read p given its prepared w ready copied =
    let hooks = hooks_by given in
    let fits = answers-fit given in
    let list = linker.linked.list.items in
    let long = long-copies p hooks its next prepared linker w ready fits copies copied in
    read-in p hooks its next prepared linker w ready fits copies copied reads
    (subst (λ (n : ℕ). AreReadFrom linker list list copies n reads) long
    (subst (λ (ids : List ℕ). AreReadFrom linker ids list copies (length copies) reads) keys
    (read (all-known p hooks its next prepared linker w ready fits) long)))

pub returns-in-Ok-clause-bundle : goal.returns-in-Ok-clause-bundle
returns-in-Ok-clause-bundle c =
    let linker = c.args.linker.now in
    let copies = c.args.copies.now in
    let next = c.args.contexts.now.next in
    let reads = c.in_ok-reads.reads.items in
    IfOk-weaker c.with_next.result _ _
    (λ made same p given its prepared w ready keys copied.
    (let hooks = hooks_by given in
    let read =
    read-so linker c.args.places.now.keys copies next reads keys c.in_ok-reads.ensures.read p given
    its prepared w ready copied in
    subst (λ (m : Module). IsMerged (λ x. x) (λ m. (its m).local) p hooks (joined_items (module_item_lists m)))
    (sym same)
    (merged-of-cleared p (λ x. x) (λ m. (its m).local) hooks _
    (c.in-Ok.ensures.merged (cleared_program p) given (λ m. (its m).local)
    (subst
    (λ (n : ℕ). AreReadIn (cleared_program p) hooks linker (λ m. (its m).local) n c.deref.result.now)
    (sym c.next.ensures)
    (subst
    (λ (l : List ReadModule). AreReadIn (cleared_program p) hooks linker (λ m. (its m).local) next l)
    (sym c.deref.ensures.value) read))))))
    c.with_next.ensures.made

-- both of what is so where something is made
made-both : {T E : Type 0} (r : Result T E) (P Q : T → Type 0) → IfOk r P → IfOk r Q →
    IfOk r (λ made. P made × Q made)
made-both (Ok made) P Q one two = (one, two)
made-both (Err refusal) P Q one two = tt

pub returns-in-Ok-clause-below : goal.returns-in-Ok-clause-below
returns-in-Ok-clause-below c =
    let linker = c.args.linker.now in
    let copies = c.args.copies.now in
    let next = c.args.contexts.now.next in
    let reads = c.in_ok-reads.reads.items in
    IfOk-weaker c.with_next.result _ _
    (λ made both p given its prepared w ready keys copied.
    (let hooks = hooks_by given in
    let read =
    read-so linker c.args.places.now.keys copies next reads keys c.in_ok-reads.ensures.read p given
    its prepared w ready copied in
    let below =
    c.in-Ok.ensures.below (cleared_program p) given (λ m. (its m).local)
    (subst
    (λ (n : ℕ). AreReadIn (cleared_program p) hooks linker (λ m. (its m).local) n c.deref.result.now)
    (sym c.next.ensures)
    (subst
    (λ (l : List ReadModule). AreReadIn (cleared_program p) hooks linker (λ m. (its m).local) next l)
    (sym c.deref.ensures.value) read)) in
    subst (λ (m : Module). HasContextsBelow made.1 (joined_items (module_item_lists m)))
    (sym both.0)
    (λ o there. (let its_own = below o there in let above = both.1 in omega (arith, its_own, above)))))
    (made-both c.with_next.result _ _ c.with_next.ensures.made c.with_next.ensures.above)

pub returns-in-Ok-clause-lacks : goal.returns-in-Ok-clause-lacks
returns-in-Ok-clause-lacks c =
    let linker = c.args.linker.now in
    let copies = c.args.copies.now in
    let next = c.args.contexts.now.next in
    let reads = c.in_ok-reads.reads.items in
    IfErr-weaker c.with_next.result _ _
    (λ refusal lack p given its prepared w ready keys copied.
    (let hooks = hooks_by given in
    let read =
    read-so linker c.args.places.now.keys copies next reads keys c.in_ok-reads.ensures.read p given
    its prepared w ready copied in
    elim lack [
      | inl memory ↦ inl memory
      | inr used ↦
          inr (
            used.0,
            subst (NeedsTooManyContexts p hooks) c.next.ensures
                (needs-of-cleared p hooks c.next.result
                (c.in-Ok.ensures.taken (cleared_program p) given (λ m. (its m).local)
                (subst
                (λ (n : ℕ). AreReadIn (cleared_program p) hooks linker (λ m. (its m).local) n c.deref.result.now)
                (sym c.next.ensures)
                (subst
                (λ (l : List ReadModule). AreReadIn (cleared_program p) hooks linker (λ m. (its m).local) next l)
                (sym c.deref.ensures.value) read))
                used.1)),
          )
    ]))
    c.with_next.ensures.after

pub returns-clause-lacks : goal.returns-clause-lacks
returns-clause-lacks c =
    let linker = c.args.linker.now in
    let copies = c.args.copies.now in
    let next = c.args.contexts.now.next in
    let reads = c.in_ok-reads.reads.items in
    let error = c.in_ok-lack_of_contexts-in-Err-ContextsUsedUp.field-0 in
    λ p given its prepared w ready keys copied.
    (let hooks = hooks_by given in
    let read =
    read-so linker c.args.places.now.keys copies next reads keys c.in_ok-reads.ensures.read p given
    its prepared w ready copied in
    inr (
      subst (λ (file : FileName). IsUsedUp file error) c.file.ensures
          c.in_ok-lack_of_contexts-in-Err-ContextsUsedUp.ensures,
      subst (NeedsTooManyContexts p hooks) c.next.ensures
          (needs-of-cleared p hooks c.next.result
          (subst (MayLackNames (cleared_program p) hooks c.next.result)
          c.in-Err-ContextsUsedUp.field-0-is
          (c.in-Err-ContextsUsedUp.ensures.refused (cleared_program p) given (λ m. (its m).local)
          (subst
          (λ (n : ℕ). AreReadIn (cleared_program p) hooks linker (λ m. (its m).local) n c.deref.result.now)
          (sym c.next.ensures)
          (subst
          (λ (l : List ReadModule). AreReadIn (cleared_program p) hooks linker (λ m. (its m).local) next l)
          (sym c.deref.ensures.value) read))))),
    ))
