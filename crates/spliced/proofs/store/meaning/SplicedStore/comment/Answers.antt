use Rattle.std.proofs.Common.{ℕ, List, sym, ap, ◌∙◌}
use Rattle.std.specs.List.{slice_get}
use Rattle.spliced.proofs.Asking.{answer_from, ranked, list_missing}
use Rattle.spliced.proofs.store.meaning.SplicedStore.comment.Goals as goal

pub returns-in_err-found : goal.returns-in_err-found
returns-in_err-found c =
    record { value = c.from_residual.ensures ∙ answer_from _ _ c.args.self.now.laid (λ p. sym (ap (λ (xs : List ℕ). slice_get xs c.args.rank) (list_missing _ _ _ _ _ _ _ c.in_err-found.ensures.finds p))) }

pub returns : goal.returns
returns c =
    record { value = answer_from _ _ c.args.self.now.laid (ranked _ _ _ _ _ _ _ _ _ _ _ c.in_ok-found.ensures.finds c.comment.ensures) }
