-- The journal that a body tells.
use Rattle.journal.specs.Journal.{Journal}
use Rattle.image.specs.declared.body.Body.{Body}

abbrev pub told : Body → Journal
told b = record { span = b.extents.span; platform = b.extents.platform; stays = b.stays.now; entries = b.entries.now }
