use Rattle.std.proofs.Common.{◌≡◌, [], ◌-◌, ◌++◌, length, take, replicate, rules, vec_len, ap, ◌∙◌}
use Rattle.fr_mutation.proofs.Digits.{fitted_front}
use Rattle.fr_mutation.proofs.number.fitted.Goals as goal

pub returns : goal.returns
returns c =
    let empty : c.in_ok-fit.fit.items ≡ [] = c.in_ok-fit.ensures.items in
    let pushed : c.extend_from_slice.new.self.items ≡ c.in_ok-fit.fit.items ++ take c.min.result c.args.bytes.now = c.in_ok-extend_from_slice.ensures.items in
    let resized : c.resize.new.self.items ≡ take c.args.len c.extend_from_slice.new.self.items ++ replicate (c.args.len - vec_len c.extend_from_slice.new.self) 0 = c.in_ok-resize.ensures.items in
    let len : vec_len c.extend_from_slice.new.self ≡ length c.extend_from_slice.new.self.items = search rules in
    resized
    ∙ ap (λ n. take c.args.len c.extend_from_slice.new.self.items ++ replicate (c.args.len - n) 0) len
    ∙ ap (λ l. take c.args.len l ++ replicate (c.args.len - length l) 0) (pushed ∙ ap (λ l. l ++ take c.min.result c.args.bytes.now) empty)
    ∙ fitted_front c.args.bytes.now c.args.len c.min.result c.min.ensures
