use Rattle.std.proofs.Common.{refl}
use Rattle.std.specs.Str.Parse.{ParsesUnsigned, ExplainsUnsignedError, HasUnsignedDigitsIfOk}
use Rattle.clap.specs.Words.{found_of}
use Rattle.tsumego.proofs.Getters.{given_read}
use Rattle.tsumego.proofs.arguments.optional_number_of.Goals as goal

pub returns : goal.returns
returns c = given_read (λ bs r. ParsesUnsigned 32 10 bs r × ExplainsUnsignedError 10 bs r × HasUnsignedDigitsIfOk bs r) (λ t r p. p.0)
    (found_of c.args.matches.now) c.args.name.now _ c.try_get_one.result refl c.try_get_one.ensures.none c.try_get_one.ensures.value
