use Rattle.sector_stamp.proofs.Images.{one_image, images_tell_apart}
use Rattle.sector_stamp.proofs.Differences.{one_first_difference}
use Rattle.sector_stamp.proofs.stamping.image_laws.Goals as goal

pub returns-clause-one : goal.returns-clause-one
returns-clause-one c = one_image

pub returns-clause-apart : goal.returns-clause-apart
returns-clause-apart c = images_tell_apart

pub returns-clause-difference : goal.returns-clause-difference
returns-clause-difference c = one_first_difference
