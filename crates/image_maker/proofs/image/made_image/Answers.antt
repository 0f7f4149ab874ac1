use Rattle.std.proofs.Common.{◌≡◌, ℕ, List, ◌++◌, length, take, ap, ◌∙◌, arith}
use Rattle.std.proofs.lemmas.List.{take_at}
use Rattle.image_maker.specs.Image.{machine, made_image}
use Rattle.image_maker.proofs.image.made_image.Goals as goal

pub returns : goal.returns
unfolding made_image
returns c =
    let long : length c.write_memory.new.image ≡ c.append_zeros.new.bytes.len = c.write_memory.auto.image ∙ c.deref_mut.ensures.len in
    let behind : length c.in_ok-image.image.items ≡ c.len-memory.result = omega (arith, c.in_ok-image.image.ok.0) in
    take_at c.write_memory.new.image _ _ long
    ∙ c.write_memory.ensures
    ∙ ap (λ (bytes : List ℕ). take c.len-memory.result bytes ++ machine c.args.number) (c.deref_mut.ensures.value ∙ c.in_ok-append_zeros.ensures.zeros)
    ∙ ap (λ (bytes : List ℕ). bytes ++ machine c.args.number) (take_at c.in_ok-image.image.items _ _ behind ∙ c.in_ok-image.ensures.front)
