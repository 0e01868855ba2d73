use mathlib.Core.Path.{◌∙◌, ap, refl}
use Rattle.std.proofs.Common.{arith}
use Rattle.fitting.specs.Derived.{begins, dangling}
use Rattle.fitting.specs.declared.derived.Opening.{Opening}
use Rattle.fitting.specs.declared.derived.Tail.{Tail}
use Rattle.fitting.proofs.Summaries.{leading_at}
use Rattle.fitting.proofs.Attributes.{attributes}
use Rattle.fitting.proofs.derived.traits_of.Goals as goal

pub returns : goal.returns
returns c =
    record {
      form = refl;
      attributes = λ cs s.
          attributes c.args.form cs _ (leading_at cs c.args.children 0 _ s (omega arith)) _ _ _ _ _ _ c.is_call.ensures c.is_target.ensures
          (c.has_bare_in.ensures cs s)
          (c.begins.ensures cs s ∙ ap (λ (o : Opening). begins o cs) c.opens_with.ensures)
          (c.dangles.ensures cs s ∙ ap (λ (t : Tail). dangling t cs) c.tail_of.ensures)
          (c.is_single.ensures cs s);
    }
