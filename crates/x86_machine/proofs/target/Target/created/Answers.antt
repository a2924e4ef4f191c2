use Rattle.std.proofs.Common.{◌≡◌, ◌+◌, ◌∙◌, sym, ap, true, not, rules, length, arith}
use Rattle.std.proofs.lemmas.List.{length-map}
use Rattle.x86_lang.specs.Assembly.{assembly_of}
use Rattle.x86_machine.specs.Kept.{state_of, thread_of, threads_of}
use Rattle.x86_machine.specs.Target.{is_code, is_stack_allowed}
use Rattle.x86_machine.proofs.Creations.{created_from, found_begun}
use Rattle.x86_machine.proofs.target.Target.created.Goals as goal

pub returns : goal.returns
returns c = λ t e.
    let a = assembly_of c.args.program.now in
    let m = state_of c.args.self.now in
    let allowed : c.is_stack_allowed.result ≡ true = search rules in
    let code : c.is_code.result ≡ true = search rules in
    let next : c.has_next.result ≡ true = search rules in
    let stack : is_stack_allowed m.threads c.args.choice ≡ true = ap (λ ts. is_stack_allowed (threads_of ts) c.args.choice) (sym c.deref.ensures.value) ∙ (sym c.is_stack_allowed.ensures ∙ allowed) in
    let here : is_code a c.args.function ≡ true = ap (λ x. is_code a x) (sym c.from.ensures) ∙ (sym c.is_code.ensures.value ∙ code) in
    let behind : is_code a (t.place + 1) ≡ true = sym (c.has_next.ensures.value t e) ∙ next in
    let number : c.len-number.result ≡ length m.threads = omega (arith, c.len-number.ensures, c.args.self.now.threads.ok.0, length-map c.args.self.now.threads.items thread_of) in
    created_from a m (state_of c.begin.new.self) c.args.thread t c.args.function c.args.argument c.args.choice c.len-number.result (λ z. search rules) stack here behind c.in_ok-begin.ensures.ok e number _ (c.answer.ensures t (found_begun m (state_of c.begin.new.self) c.args.function c.args.argument c.args.choice c.args.thread t c.in_ok-begin.ensures.ok e))
