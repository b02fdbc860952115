-- A sector has one first difference from an image.
use Rattle.std.proofs.Common.{refl}
use Rattle.sector_stamp.specs.declared.part.Part.TheVariants.{Name, Address, Key, Pattern}
use Rattle.sector_stamp.specs.Image.{HasOneFirstDifference}

pub one_first_difference : HasOneFirstDifference
one_first_difference Name Name name address key sector d e = refl
one_first_difference Name Address name address key sector d e = absurd (d e.0)
one_first_difference Name Key name address key sector d e = absurd (d e.0)
one_first_difference Name Pattern name address key sector d e = absurd (d e.0)
one_first_difference Address Name name address key sector d e = absurd (e d.0)
one_first_difference Address Address name address key sector d e = refl
one_first_difference Address Key name address key sector d e = absurd (d.1 e.1)
one_first_difference Address Pattern name address key sector d e = absurd (d.1 e.1)
one_first_difference Key Name name address key sector d e = absurd (e d.0)
one_first_difference Key Address name address key sector d e = absurd (e.1 d.1)
one_first_difference Key Key name address key sector d e = refl
one_first_difference Key Pattern name address key sector d e = absurd (d.2 e.2)
one_first_difference Pattern Name name address key sector d e = absurd (e d.0)
one_first_difference Pattern Address name address key sector d e = absurd (e.1 d.1)
one_first_difference Pattern Key name address key sector d e = absurd (e.2 d.2)
one_first_difference Pattern Pattern name address key sector d e = refl
