mod Appended
mod Firsts
mod Numbers
mod Bodies
