-- The entries that the code writes.
use Rattle.kilim_class_pool.specs.declared.entry.Entry.{Entry}
use Rattle.kilim_class_pool.specs.declared.entry.Entry.TheVariants as entry
use Rattle.kilim_demo.specs.declared.pool.Constant.{Constant}
use Rattle.kilim_demo.specs.declared.pool.Constant.TheVariants as constant

abbrev pub entry_of : Constant → Entry
entry_of (constant.Text ascii) = entry.Utf8 ascii.now
entry_of (constant.Class name) = entry.Class name
entry_of (constant.Field class member) = entry.Fieldref class member
entry_of (constant.Method class member) = entry.Methodref class member
entry_of (constant.NameAndType name descriptor) = entry.NameAndType name descriptor
