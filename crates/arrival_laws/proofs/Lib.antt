mod Lives
mod Elsewhere
mod Firsts
mod SeenFirsts
