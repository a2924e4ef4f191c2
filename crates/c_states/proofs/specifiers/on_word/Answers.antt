use Rattle.std.proofs.Common.{sym, ap, ◌∙◌}
use Rattle.c_reading.specs.Code as code
use Rattle.c_parts.specs.Views.{last_of, specifiers_part_of}
use Rattle.c_states.proofs.OtherWords.{begins_words}
use Rattle.c_states.proofs.Same.{moves_same}
use Rattle.c_tree.specs.Shape.{word_of}
use Rattle.c_states.proofs.specifiers.on_word.Goals as goal

pub returns-in-Words : goal.returns-in-Words
returns-in-Words c =
    λ k ns.
    let last = ap last_of (sym c.replace.ensures.value ∙ c.in-Words.is) in
    let same = ap (λ l. code.on_word_behind l (specifiers_part_of c.args.specifiers) k ns (word_of c.args.word) c.args.at) last in
    moves_same c.on_next_word.result _ _ _ _ same (c.on_next_word.ensures c.args.at k ns)

pub returns-in_default : goal.returns-in_default
returns-in_default c =
    λ k ns.
    let last = sym c.replace.ensures.value in
    let moved = ap (λ l. code.on_word_behind (last_of l) (specifiers_part_of (record c.args.specifiers { last = l })) k ns (word_of c.args.word) c.args.at) last in
    let first = begins_words c.replace.result (specifiers_part_of (record c.args.specifiers { last = c.replace.result })) k ns (word_of c.args.word) c.args.at c.in_default.not-Words in
    moves_same c.on_first_word.result _ _ _ _ (moved ∙ first) (c.on_first_word.ensures k ns)
